pub mod Lines
pub mod Settings
pub mod Texts
