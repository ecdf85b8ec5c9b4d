-- The vocabulary of inner contracts: no claim rests on it.
pub mod Steady
pub mod Keepers
