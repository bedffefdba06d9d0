-- The report's text, and what writing a line does to a buffer.
pub mod Report
