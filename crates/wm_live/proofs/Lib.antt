pub mod Commanded
pub mod DrainFronts
pub mod DrainSteps
pub mod FoundRecords
pub mod Lives
pub mod RunSteps
pub mod Stands
