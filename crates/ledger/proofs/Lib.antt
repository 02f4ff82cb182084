-- What the code cites: `Closing` is the promise of `close` from what was judged and written.
pub mod Closing
-- Demand 1: `Demand1` states the theorem over the checked contracts of every call.
-- Demand 3: `Demand` states the theorem over the checked contracts of `open` and `close`; `Learnt` is what the contract of `close` tells
-- a caller; `Pins` writes the contracts out; `Some` shows that the theorem is not empty; `Machine` takes it to the machine's runs.
-- There are such runs: `Ready` has memories from which the two can be called, with whatever fits its type (`Fitting`), made by `Placing`;
-- `SomeRuns` has an opening that is run and accepted, and a caller after it.
pub mod Learnt
pub mod Demand
pub mod Demand1
pub mod Pins
pub mod Some
pub mod Machine
pub mod Placing
pub mod Fitting
pub mod Ready
pub mod SomeRuns
