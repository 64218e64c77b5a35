pub mod Causes
pub mod Ended
pub mod Status
pub mod Tells
