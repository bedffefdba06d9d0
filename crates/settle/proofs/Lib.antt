-- A law that the proof of a function uses.
-- Assumes nothing.
pub mod Found
