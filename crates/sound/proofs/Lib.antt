-- The laws that the functions' proofs cite, and what else is known of the numbered slots.
--     Below    tests of the numbers below a bound
--     Small    where a slot fits, its address and its VIDs are small
--     Slots    slot s of cache c is number 16 c + s
--     Bridge   the house rules over the numbered slots are `is_sound`
--     Chaining the chains of a machine, one slot more
--     Sight    what a line has seen, one line of its address more
--     Entries  the table of 81 entries, row by row
-- Assumes nothing.
pub mod Below
pub mod Small
pub mod Slots
pub mod Bridge
pub mod Chaining
pub mod Sight
pub mod Entries
