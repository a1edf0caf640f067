-- Lemmas of files that are saved.
pub mod Kept
pub mod Journals
