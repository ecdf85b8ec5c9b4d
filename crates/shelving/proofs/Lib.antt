pub mod Cards
pub mod Shelves
pub mod Filling
pub mod Holding
