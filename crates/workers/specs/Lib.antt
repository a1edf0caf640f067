pub mod WorkerInvariant
pub mod Counting
pub mod Keeping
pub mod Batching
