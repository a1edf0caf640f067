-- Lemmas on the levels of operators (Levels), and on the steps of the reading (Steps).
pub mod Levels
pub mod Steps
