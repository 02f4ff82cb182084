-- `Learnt` is what a caller learns from the contract of a function.
pub mod Learnt
