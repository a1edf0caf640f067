-- Worked examples (Rows), and lemmas that what is read is what the grammar spells, and that all of it is read.
pub mod Turns
pub mod Steps
pub mod Sound
pub mod Complete
pub mod SoundStatements
pub mod CompleteStatements
mod Rows
