-- `Columns`: a line's values in the order of its columns, where `rules` has no definition of it.
pub mod Columns
