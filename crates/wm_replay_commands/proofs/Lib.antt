pub mod CancelCounts
pub mod Commands
pub mod ToldWorks
