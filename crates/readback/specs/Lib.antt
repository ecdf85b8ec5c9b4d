pub mod Readback
pub mod Saved
pub mod Calls
pub mod Laws
