-- Lemmas of lines, of tokens with their bytes, and of texts that are shown (Excerpts).
pub mod Excerpts
pub mod Skipped
pub mod Spotted
pub mod Texts
