-- What the code of `judge` cites: `Judging` is what is known as group after group of the refusals is passed; `Weighing` 8 to 10. What
-- writing cites: `Writing` is what each step asks and comes to, `Ready` that an accepted closing may write.
pub mod Judging
pub mod Weighing
pub mod Writing
pub mod Ready
