pub mod Cuts
pub mod Depths
pub mod LineValues
pub mod Plain
pub mod ReadFields
pub mod ToldEvents
pub mod ToldHeaders
pub mod ToldRows
