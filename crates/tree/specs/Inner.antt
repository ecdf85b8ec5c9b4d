-- The vocabulary of inner contracts: no claim rests on it.
pub mod Merge
pub mod Cut
pub mod ByWords
pub mod Books
