pub mod Audits
pub mod Entries
pub mod Fields
pub mod Headers
pub mod Lines
pub mod Ranges
pub mod StoredRows
