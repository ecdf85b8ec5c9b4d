pub mod Blocks
pub mod Handed
