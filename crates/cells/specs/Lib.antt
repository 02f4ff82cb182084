-- Why a table of cells always exists and which is the largest, and what the code promises. In reading order:
-- `Cut` is the theorem; `Marks` and `Kept` say what marks are and that totals are kept; `Visit`, `Turns` and `Place` follow the search, and
-- `Searching` says its laws of the code's struct, as `Marking` does those of the floors and of the dealing;
-- `First` is the marks by list order; `Ranks` says why a cell cannot be raised, and `Pass`, `Searched` and `Lift` follow the pass;
-- `Exact`, `Naturals`, `Fill`, `Rows` and `Floors` lead from credits and debits to marks; `Finish` is the table and what `fill` asks,
-- `Order` the largest; `Search` and `Exists` have the search as a theorem, and the table's existence for any number and size; `Choice`,
-- `Decided` and `LargestExists` the same of the largest table.
pub mod Cut
pub mod Marks
pub mod Kept
pub mod Visit
pub mod Turns
pub mod Place
pub mod Searching
pub mod First
pub mod Ranks
pub mod Pass
pub mod Searched
pub mod Lift
pub mod Exact
pub mod Fill
pub mod Naturals
pub mod Rows
pub mod Floors
pub mod Marking
pub mod Finish
pub mod Order
pub mod Search
pub mod Exists
pub mod Choice
pub mod Decided
pub mod LargestExists
