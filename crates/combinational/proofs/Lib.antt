pub mod Lists
pub mod Flow
pub mod Forms
pub mod Places
pub mod Waits
pub mod Bounds
pub mod LogicFound
