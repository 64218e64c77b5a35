pub mod Placed
pub mod Planned
pub mod Stepped
