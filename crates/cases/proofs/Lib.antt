pub mod Tables
pub mod Columns
pub mod Checked
pub mod Bands
pub mod Skipped
pub mod Direct
