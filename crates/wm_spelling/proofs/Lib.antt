pub mod Canonical
pub mod GivenParts
pub mod LineReading
pub mod OwnBatches
pub mod OwnCommands
pub mod OwnIds
pub mod ReadWorks
pub mod Shallow
