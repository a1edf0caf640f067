pub mod Given
pub mod Refusals
pub mod Wholes
