-- Lemmas of what the parser answers, by the grammar and the text alone.
pub mod Answered
pub mod Texts
pub mod Nested
