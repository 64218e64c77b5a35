pub mod Sound
pub mod Walks
