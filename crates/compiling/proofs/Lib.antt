pub mod Stores
pub mod Writing
pub mod Putting
pub mod Stack
pub mod Rows
pub mod Spots
pub mod Turns
