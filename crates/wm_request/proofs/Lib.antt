pub mod Limits
pub mod Nexts
pub mod Tags
