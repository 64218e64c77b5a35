pub mod Memory
pub mod Pending
pub mod Sink
pub mod Source
pub mod Standard
pub mod Writing
pub use Rattle.wm_faults.specs.Faults
