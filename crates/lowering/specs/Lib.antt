pub mod Hidden
pub mod Prints
pub mod Shown
pub mod Lowering
pub mod Cases
pub mod Flat
