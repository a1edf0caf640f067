pub mod Classes
pub mod Choices
pub mod LooselyTaken
