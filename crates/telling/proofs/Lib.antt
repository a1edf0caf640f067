-- Lemmas of what was told.
pub mod Sent
