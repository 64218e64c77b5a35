pub mod Endings
pub mod WrittenTexts
