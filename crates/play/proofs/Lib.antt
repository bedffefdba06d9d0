-- Laws that the proofs of the player share, and what is promised of it.
-- Assumes nothing.
pub mod Telling
pub mod Turns
pub mod Room
pub mod ExactReport
pub mod OneReport
