pub mod FirstPlaces
pub mod Freeing
pub mod Reaching
pub mod Reporting
pub mod RunLookups
pub mod Touched
