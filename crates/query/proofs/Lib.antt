pub mod Showing
pub mod Packed
pub mod Asking
