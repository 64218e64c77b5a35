pub mod Acknowledged
pub mod Table
