-- What contracts cite: `Columns` of agent lines that are in their ranges; `Payable`, what the credits of a month ask of it.
pub mod Columns
pub mod Payable
