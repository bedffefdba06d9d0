-- Lines over a list of fields: which are good, what is due behind their first bytes, and what reading them comes to.
pub mod Stands
pub mod Decimal
pub mod GoodLines
pub mod Due
pub mod LineReading
pub mod Expects
pub mod OneBreak
pub mod WrittenLines
pub mod Readings
pub mod StepLines
