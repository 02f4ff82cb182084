-- `Runs` is what reading the next file comes to. What is printed is tested and not proved.
pub mod Runs
