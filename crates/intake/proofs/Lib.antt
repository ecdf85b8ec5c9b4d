pub mod Bytes
pub mod Whole
pub mod Lengths
pub mod Records
