-- `Running` is the running share of paper 01, `Answer` what the exported share answers, `Limits` its limits said positively, `Filling`
-- what writing all parts asks, `Rate` many shares of one amount, `OnePart` what holds of every part, `Joined` two neighbouring lines listed
-- as one, `Cases` numbers worked out by hand.
pub mod Running
pub mod Answer
pub mod Limits
pub mod Filling
pub mod Rate
pub mod OnePart
pub mod Joined
pub mod Cases
