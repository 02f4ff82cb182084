-- What follows from the definitions of specs/: `Allowed` is what a kind of user may draw, `Cut` a number cut at 0; `Scanned` is what a
-- scan comes to, `Amounts` that a month's amounts are those of `rules`, `Ready` that a closing can show all that they ask for.
pub mod Allowed
pub mod Cut
pub mod Scanned
pub mod Amounts
pub mod Ready
