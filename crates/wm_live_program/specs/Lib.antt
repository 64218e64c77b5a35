pub mod Answered
pub mod Asks
pub mod Driven
pub mod Ended
pub mod Reading
pub mod Run
