pub mod Numbered
pub mod WaitingStates
