-- Lemmas on the bytes of numbers.
pub mod Turns
