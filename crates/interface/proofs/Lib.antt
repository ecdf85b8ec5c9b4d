pub mod Handed
pub mod Refusals
pub mod Differ
pub mod Lists
