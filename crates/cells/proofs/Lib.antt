pub mod Region
pub mod Rows
pub mod Unlike
pub mod Places
pub mod Bits
