pub mod Nodes
pub mod Passes
pub mod Walking
pub mod Turns
