-- Lemmas of a turn: what is read and known, values of expressions, texts, steps, and the whole turn.
pub mod Operators
pub mod Known
mod Sizes
pub mod Slots
mod TurnChanges
pub mod Runs
pub mod Printed
pub mod Values
pub mod Steps
mod GoingOn
pub mod Turns
pub mod Strobed
