pub mod Closings
pub mod Givings
pub mod TurnLemmas
