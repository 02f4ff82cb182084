-- `Learnt` says in paper 01's words what a caller learns from the two contracts, `Pins` writes them out.
pub mod Learnt
pub mod Pins
