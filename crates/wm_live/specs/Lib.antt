pub mod Asking
pub mod Drained
pub mod Live
pub mod Rest
pub mod StandState
