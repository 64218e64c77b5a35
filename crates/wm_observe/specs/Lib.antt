pub mod Compared
pub mod Near
pub mod Notes
pub mod Put
pub mod SameInfo
