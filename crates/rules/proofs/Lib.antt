-- What follows from the definitions of specs/, up to demands 1 and 3.
--
-- An accepted month: `Tests` takes a list of tests apart; `Fits` is a line with every value in its range; `Months` are those that there
-- are; `Passed` is all that an accepted month has passed; `Sizes`, `Entries` and `ByLine` are the lengths and the entries of its lists of
-- amounts.
-- A loop over its lines: `Turns` is one test of each line, turn by turn; `Answers` reads an answer off its verdict, and `Told` has an
-- answer for each verdict; `Pins` writes out what a refusal tells.
-- Its table: `Near` is the one cent; `Direct` has the direct charges in it; `Slice` reads it in the slice that it stands in; `OneTable`: of
-- whole values there is one.
-- A rounding: `HalfUp` is the one number that lies so near.
-- Demand 1: `Limits` is a limit and a test that agree, `LimitsTests` each limit and its test, `LimitsMonth` the limits in their order and
-- the refusals of a call, and `Demand1` states the theorem.
-- Demand 3: `Lending` has the held credits in the slice that lends them; `Steps` holds one closing to one step of the tally, `Follow` a
-- list of them, and `Demand` states the theorem; `OneSlice` is its case of one slice throughout, `NoDirect` that of months without direct
-- charges.
-- It is not empty: `Promise` proves a call's promise by cases, `Some` that promised lists of calls exist, and `Worked` is one.
-- Guards, which a wrong definition would break: `Totals`, `Blind` (what an amount does not look at), `Cycle` (the tariff year and the
-- cycle read against the calendar, with `Months`), `WholeCycle` (a cycle pays pa, whichever months were skipped), `Bands` (peak and
-- off-peak rounded each for itself, beside both rounded once), `SisterAgents` and `SisterUsers` (two lines listed as one, worked out in
-- `SistersWorked`), `Examples` of refusals and `Places` where they fall; `Sides` has the sums that they need.
-- What code relies on: `Bounds` of every amount. `Ranged` is what tests 1 to 7 give; on it stand, by the tests that each needs besides,
-- `BoundsSums` (none; from `BoundsPoint`, `BoundsAgent` and `PerUser`), `BoundsCharges` (9), `BoundsCredits` (8, 9), the cells (10);
-- `BoundsDirect` has the direct charges.
-- `MonthTotals` has the totals of every accepted month.
pub mod Tests
pub mod Fits
pub mod Months
pub mod Passed
pub mod Sizes
pub mod Entries
pub mod Turns
pub mod Answers
pub mod Told
pub mod Pins
pub mod Near
pub mod Direct
pub mod Slice
pub mod OneTable
pub mod HalfUp
pub mod Lending
pub mod Steps
pub mod Follow
pub mod Demand
pub mod OneSlice
pub mod NoDirect
pub mod Promise
pub mod Some
pub mod Worked
pub mod ByLine
pub mod Sides
pub mod Totals
pub mod Blind
pub mod Cycle
pub mod WholeCycle
pub mod Bands
pub mod SisterAgents
pub mod SisterUsers
pub mod SistersWorked
pub mod Examples
pub mod Places
pub mod Ranged
pub mod BoundsPoint
pub mod BoundsAgent
pub mod PerUser
pub mod BoundsSums
pub mod BoundsCharges
pub mod BoundsCredits
pub mod BoundsDirect
pub mod Bounds
pub mod MonthTotals
pub mod Limits
pub mod LimitsTests
pub mod LimitsMonth
pub mod Demand1
