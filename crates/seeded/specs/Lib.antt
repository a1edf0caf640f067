pub mod Samples
pub mod Seeds
