pub mod Builds
pub mod Cleared
pub mod Placed
pub mod Planned
pub mod PutBack
