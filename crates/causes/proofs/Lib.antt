-- Lemmas of races that part texts.
pub mod Parted
