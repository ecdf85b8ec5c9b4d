pub mod Steady
pub mod Keeping
pub mod Renewing
