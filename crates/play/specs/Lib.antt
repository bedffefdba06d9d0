-- A whole trace text to a whole report.
pub mod Play
pub mod Buffer
pub mod Exact
