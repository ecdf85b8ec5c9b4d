pub mod Places
pub mod Noting
pub mod Paths
pub mod Rows
pub mod ByHead
pub mod Reading
pub mod Below
