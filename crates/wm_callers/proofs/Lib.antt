pub mod Asking
pub mod Closings
pub mod Helds
pub mod Keeps
pub mod Lists
pub mod Rests
pub mod Views
pub mod WordSteps
