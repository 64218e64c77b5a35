-- What an audit says, and what is wrong with one that isn't right.
pub mod Exported
pub mod Happened
pub mod Places
pub mod Verdicts
