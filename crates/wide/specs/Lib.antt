-- What the two-word arithmetic promises.
pub mod Exact
