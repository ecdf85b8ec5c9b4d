pub mod Refusals
pub mod Holds
pub mod Step
pub mod Reach
pub mod Agreement
pub mod Saved
pub mod Backward
pub mod Exact
pub mod Trials
mod Beginnings
pub mod Laws
pub mod Encoding
pub mod Believable
