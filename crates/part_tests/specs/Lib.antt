pub mod Three
pub mod Two
