-- The laws of the rules, a layer a folder, each on the ones before it. Theorems.antt has what the project promises, each with its proof in a line.
--     base       tests and what they decide, lists by place, states, lines, words
--     address    the lines of one address: when they are sound, what a number sees there, and what each move does to both
--     history    demand 3, for any machine whose steps keep the laws of what is seen
--     machines   the rules on the machine, through pointwise laws of its lines
-- Shape.antt has the lengths of a machine's arrays, for the proofs of the functions.
pub mod base
pub mod address
pub mod history
pub mod machines
pub mod Shape
pub mod Theorems
pub mod EasyToGetWrong
pub mod MarkedCases
