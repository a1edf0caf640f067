pub mod Statements
pub mod Surroundings
pub mod Places
pub mod Reads
pub mod Parts
pub mod Times
pub mod Scales
