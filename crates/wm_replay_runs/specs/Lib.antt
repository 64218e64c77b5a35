pub mod Away
pub mod Closings
pub mod Ending
pub mod Giving
pub mod Starts
