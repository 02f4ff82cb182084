-- Cursor    what stands at a cursor, and what it passes
-- Passing   what passing over a part of the text does to format's verdict
-- Checked   the file check's answer as a number
-- At        what is read at a cursor, by format's definitions
-- Reads     what reading one file answers and writes: format's `reading`
-- Demand1   demand 1 of one reading, in paper 01's words
-- Saved     the law of the saved file, of two readings
pub mod Cursor
pub mod Passing
pub mod Checked
pub mod At
pub mod Reads
pub mod Demand1
pub mod Saved
