-- Laws of what the code reads (digits, keys and places that are read, byte by byte and field by field; what a reader owns), and the laws of trace text:
--     lines       lines over a list of fields: which are good, what is due behind their first bytes, and what reading them comes to
--     ReadsBack   what is written is read, and nothing else is read as it
--     Columns     the column and the kind that are told are those of the first byte that can't continue any good line
--     Lengths     how long a line is that is read, and how far on one that is unreadable can break, so that its column has room
--     FromReader  what stands at a reader's place, by what the reader gives
pub mod Digits
pub mod Keys
pub mod Places
pub mod FieldByField
pub mod Readers
pub mod lines
pub mod ReadsBack
pub mod Columns
pub mod Lengths
pub mod FromReader
