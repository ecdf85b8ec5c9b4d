-- The vocabulary of inner contracts: no claim rests on it.
pub mod Rows
pub mod Saved
pub mod Compiling
