pub mod Locating
pub mod TakingOut
