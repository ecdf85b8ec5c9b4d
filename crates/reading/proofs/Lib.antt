pub mod Words
pub mod Past
pub mod Scanning
pub mod Counting
