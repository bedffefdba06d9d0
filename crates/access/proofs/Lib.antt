-- Laws that the proofs of the functions share: verdicts, the look as a walk over all lines, the rules by what was found, a store's search, and a plan carried out.
-- Assumes nothing.
pub mod Verdicts
pub mod Over
pub mod Walk
pub mod Found
pub mod Searches
pub mod Carried
pub mod Placed
pub mod Asks
