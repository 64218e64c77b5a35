pub mod KeyOrder
pub mod MergedData
pub mod MergedTypes
pub mod Merges
pub mod Steps
pub mod Values
