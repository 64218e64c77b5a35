pub mod Callers
pub mod Live
pub mod Run
pub mod Settings
