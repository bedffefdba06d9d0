-- What a load or store is refused for before its rule is tried, what it sees of the machine, and what a plan of it comes to.
pub mod Checks
pub mod Look
pub mod Plan
pub mod Search
pub mod Ask
