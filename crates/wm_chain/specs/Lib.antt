pub mod Layers
pub mod Walk
