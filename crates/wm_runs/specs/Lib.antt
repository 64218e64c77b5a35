pub mod Builds
pub mod Reached
pub mod Reports
