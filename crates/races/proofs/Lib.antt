-- Lemmas of lists, and of races beside others.
pub mod Kept
pub mod Led
pub mod Alike
