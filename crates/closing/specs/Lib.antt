-- `Judged` is what is found of a closing: refusals 1 to 10 in order, and the amounts; `Written` what an accepted month writes.
pub mod Judged
pub mod Written
