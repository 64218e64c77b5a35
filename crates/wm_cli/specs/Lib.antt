pub mod Desk
pub mod Ended
pub mod Images
pub mod Lines
pub mod Run
pub mod Setup
pub mod Taken
