pub mod Commands
pub mod Faults
pub mod Names
pub mod Works
