pub mod Answers
pub mod Lines
pub mod Names
pub mod Parts
pub mod RunTexts
