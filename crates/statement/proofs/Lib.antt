-- What follows from the definitions of specs/: `Entries` is what stands at each row; `ByColumn` what each column is; `Owing` that the
-- users' rows are those of `Statement`; `Writing` that an accepted month has what its rows ask; `Stating` what a judged statement may
-- write, and promises; `CaseA` the rows of paper 01's month; `Pins` the calls' contracts. Demands 1 and 2:
-- `Promised` is 1 of a promise; `Demand1` and `Demand2` are over what a caller learns (`Learnt`).
pub mod Entries
pub mod ByColumn
pub mod Owing
pub mod Writing
pub mod Stating
pub mod CaseA
pub mod Pins
pub mod Learnt
pub mod Promised
pub mod Demand1
pub mod Demand2
