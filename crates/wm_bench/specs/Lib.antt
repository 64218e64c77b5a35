pub mod Places
pub mod Seat
