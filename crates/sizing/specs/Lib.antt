pub mod Names
pub mod Selects
pub mod Meanings
pub mod Typing
pub mod Digits
pub mod Parts
pub mod Results
