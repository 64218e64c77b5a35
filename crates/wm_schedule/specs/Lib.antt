pub mod Clamped
pub mod Defaults
pub mod Due
pub mod Moments
