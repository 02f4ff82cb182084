-- `Statement` is what the call promises: the rows of a month, and why it comes back. `Columns` is the rows of users and payees from
-- their columns; `Writes` what an accepted month writes. `Demand1` and
-- `Demand2` are demands 1 and 2 in words.
pub mod Statement
pub mod Columns
pub mod Writes
pub mod Demand1
pub mod Demand2
