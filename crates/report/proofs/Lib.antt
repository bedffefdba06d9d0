-- Laws of the line: its digits, the letter and the column that only an unreadable one has, bytes stored one after the other, and what the writer's answer
-- tells; and that the contract leaves one result.
-- Assumes nothing.
pub mod Digits
pub mod Refusals
pub mod Sets
pub mod Written
pub mod OneLine
