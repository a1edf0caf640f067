pub mod Formats
pub mod Fresh
