-- Lemmas of texts and their lines.
pub mod LineLaws
pub mod Pieces
pub mod PartLaws
