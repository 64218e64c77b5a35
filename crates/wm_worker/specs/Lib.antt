pub mod Answers
pub mod Diary
pub mod Signal
pub mod Told
