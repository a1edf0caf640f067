pub mod Places
pub mod Plain
pub mod Macros
pub mod Sources
