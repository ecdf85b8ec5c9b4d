pub mod Sizes
pub mod Table
