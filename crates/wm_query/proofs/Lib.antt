pub mod Groups
pub mod NumbersDone
pub mod ScanLemmas
