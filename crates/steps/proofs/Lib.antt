-- Lemmas of writes, of what comes of a step, and of what is told of it.
pub mod Writes
pub mod Effects
pub mod Logged
pub mod Notes
pub mod Stepped
