pub mod Counting
pub mod Ledger
pub mod Printing
pub mod Text
