pub mod Executions
pub mod FoundAnswers
pub mod FoundNumbers
