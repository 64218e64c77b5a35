pub mod Changes
pub mod Hands
