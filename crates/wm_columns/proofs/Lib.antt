mod ColumnBytes
mod ColumnTexts
pub mod Values
