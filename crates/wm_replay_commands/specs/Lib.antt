pub mod Cancels
pub mod Updates
