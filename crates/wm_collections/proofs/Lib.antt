pub mod Ascending
pub mod Lists
pub mod NumberSets
pub mod Options
pub mod Places
