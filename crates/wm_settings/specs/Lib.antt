pub mod Builds
pub mod Told
pub mod WorkSets
