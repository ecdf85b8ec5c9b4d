pub mod Fed
pub mod Inner
