pub mod AnsweredAsks
pub mod Askable
pub mod LiveEnds
pub mod LiveRuns
