pub mod CheckedBatches
pub mod MemberUpdates
pub mod NamedPlans
pub mod Placings
pub mod Steps
