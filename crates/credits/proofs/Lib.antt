-- `Months` are the year and the month of the year as the code has them; `Amounts` are the bounds of the numbers on the way to the
-- credits; `Tested` leads from closing's tests to what the credits ask.
pub mod Euclid
pub mod Months
pub mod Amounts
pub mod Tested
