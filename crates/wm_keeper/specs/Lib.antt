pub mod Ascends
pub mod Keeper
pub mod Memory
pub mod Store
pub mod Sure
pub use Rattle.wm_faults.specs.Faults
