-- The month file of paper 01, page by page:
--   Bytes     bytes and quoted text
--   Blocks    the table of blocks: names, columns, counts
--   Decimal   a value
--   Grammar   lines, blocks, a file, files on end: what is a month file
--   Machine   the same, byte by byte; the file check
--   Language  refusal 11's place, and the file check's answer, in paper 01's words
--   Values    the values of a file
--   Reading   one file at a position: the answer, and what paper 01 says of it
--   Saved     a text with CRs added, and where a place goes
--   Example   paper 01's example file: its text and its values
pub mod Bytes
pub mod Blocks
pub mod Decimal
pub mod Grammar
pub mod Machine
pub mod Language
pub mod Values
pub mod Reading
pub mod Saved
pub mod Example
