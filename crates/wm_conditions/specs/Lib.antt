pub mod Defaults
pub mod Met
pub mod Signatures
