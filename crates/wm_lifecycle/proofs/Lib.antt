pub mod InstancePlaces
