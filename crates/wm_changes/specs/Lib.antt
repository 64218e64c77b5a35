pub mod Nodes
pub mod Readiness
pub mod Replacements
pub mod StepChanges
pub mod Touched
