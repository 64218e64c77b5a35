pub mod DataJson
pub mod DataRead
pub mod Entries
pub mod InType
pub mod Size
pub mod Tokens
