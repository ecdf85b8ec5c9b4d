pub mod Undoing
pub mod Visits
