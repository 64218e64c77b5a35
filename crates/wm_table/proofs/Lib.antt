pub mod Acknowledged
pub mod TableSteps
