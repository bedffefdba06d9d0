-- Trace text: keys and numbers, the first line, and a step's line; a step's line as it is written; where a line that is unreadable breaks; and what a reader gives, one step after another.
pub mod Numbers
pub mod Trace
pub mod Written
pub mod Columns
pub mod Reader
