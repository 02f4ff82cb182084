-- `Seen` is what C sees of the share.
pub mod Seen
