pub mod Hands
pub mod IdleTables
pub mod PlacesAndInstances
pub mod PlacesChanged
pub mod RetiredPlaces
pub mod Seats
pub mod Turnings
