pub mod Lone
pub mod Rising
pub mod ReadPairs
pub mod Picking
pub mod Ways
pub mod Listings
pub mod Outcomes
pub mod Laws
