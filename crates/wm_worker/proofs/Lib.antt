pub mod Giving
pub mod Totals
