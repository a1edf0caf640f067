pub mod Halting
pub mod RunRecords
pub mod Compared
pub mod LongEnds
