pub mod Turns
pub mod Known
