pub mod Differing
pub mod Scanning
pub mod Slices
