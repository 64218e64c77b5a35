pub mod Batches
pub mod Building
pub mod Requests
