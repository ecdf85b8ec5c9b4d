pub mod Reader
pub mod Tables
pub mod Wording
