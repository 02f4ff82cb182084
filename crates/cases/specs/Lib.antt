-- `Inputs` has the points and the months of the examples (case a's month is `rules`' July, its file `format`'s example), `ByHand` the
-- examples a to j, `Bands` the months of paper 02's Q-4, `Skipped` those of its Q-8, `Direct` those of its Q-1. proofs/Checked.antt,
-- Bands.antt, Skipped.antt and Direct.antt prove them.
pub mod Inputs
pub mod ByHand
pub mod Bands
pub mod Skipped
pub mod Direct
