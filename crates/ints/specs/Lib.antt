-- The toolkit on whole numbers, cited by every other crate. `Bridge` lets `omega` read facts on ℤ, `Order` names the laws of order,
-- `Ring` proves ring identities and orders of sums and products, `Floor` is division rounded down, `Sums` the sum of a list and of a
-- family, `NatSums` the same of naturals, `Adding` what an adding loop has added, `Fill` what a writing loop has written, `Rest` what a
-- division leaves over, `Words` what the machine's 64-bit words add to a whole number, `Computed` rules that are computed over a range.
pub mod Bridge
pub mod Order
pub mod Range
pub mod Ring
pub mod Floor
pub mod Rest
pub mod NatSums
pub mod Sums
pub mod Adding
pub mod Fill
pub mod Words
pub mod Computed
pub mod Bounds
