pub mod Lists
pub mod Word
pub mod Clause
pub mod Positions
pub mod Accepted
pub mod Inner
