pub mod Gathered
pub mod Merging
