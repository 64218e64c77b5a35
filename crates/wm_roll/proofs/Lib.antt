pub mod Held
pub mod Keeps
pub mod Strikings
