pub mod Places
pub mod Flat
pub mod Values
pub mod Designs
pub mod Blocks
