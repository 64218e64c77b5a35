pub mod Bench
pub mod Hands
pub mod Idle
pub mod Seats
pub mod Turning
