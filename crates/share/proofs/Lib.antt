-- `Laws` says what holds of every running share, `Joined` what two neighbouring lines listed as one receive, `Limits` when the share
-- answers and when it refuses, `Learnt` that this is what a caller of `part` learns, `Pins` writes its contract out.
pub mod Laws
pub mod Joined
pub mod Limits
pub mod Signs
pub mod Learnt
pub mod Pins
