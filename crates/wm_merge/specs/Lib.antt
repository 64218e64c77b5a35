pub mod Elements
pub mod Growing
pub mod Inputs
pub mod Merged
pub mod Overwriting
