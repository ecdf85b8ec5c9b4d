pub mod Scanning
pub mod InsertCases
