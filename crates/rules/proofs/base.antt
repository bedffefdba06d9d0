pub mod Bools
pub mod Tests
pub mod Lists
pub mod States
pub mod Lines
pub mod LineRules
pub mod Words
