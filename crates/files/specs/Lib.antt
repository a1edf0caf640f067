pub mod FileStatuses
pub mod Saved
pub mod Reading
