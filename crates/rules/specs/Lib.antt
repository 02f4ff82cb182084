-- Paper 01 as definitions, in the paper's order, with what paper 02 adds. A reader who holds the papers beside these pages needs to
-- believe nothing else.
pub mod Verdict
pub mod Most
pub mod Lists
pub mod Calendar
pub mod Lines
pub mod Kinds
pub mod Ranges
pub mod State
pub mod Charges
pub mod Credits
pub mod Table
pub mod Direct
pub mod Refusals
pub mod Limits
pub mod TariffYear
pub mod Bands
pub mod Sisters
pub mod Tested
pub mod Answers
pub mod Calls
pub mod Tally
pub mod WholeCycle
pub mod Demand
pub mod Demand1
pub mod NoDirect
pub mod July
