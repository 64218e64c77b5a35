pub mod BatchesLemmas
pub mod BuiltCommands
pub mod BuiltRequests
pub mod LinesLemmas
pub mod PartsLemmas
