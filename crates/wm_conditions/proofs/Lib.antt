pub mod Gathering
pub mod Inverses
