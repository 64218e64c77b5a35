pub mod Ascending
pub mod Equal
mod Places
pub mod Stores
