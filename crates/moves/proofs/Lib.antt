-- Laws of the moves: what a loop that changes a list comes to, a machine with other caches, the search for a place, and lines out of a change's reach.
--     Loops    a list changed at every place, a turn at a time
--     Caches   a machine with other caches
--     Search   std's search for a place is the rules'
--     FirstHit the rules' search, by the places before the first hit
--     Slots    a slot that is found free
--     Reached  a line that a change can't reach
-- Assumes nothing.
pub mod Loops
pub mod Caches
pub mod Search
pub mod FirstHit
pub mod Slots
pub mod Reached
