pub mod Checked
pub mod NamedIds
pub mod NumberSets
pub mod Numbered
pub mod Planned
