pub mod Moves
pub mod Combinations
pub mod SleepThroughNotes
