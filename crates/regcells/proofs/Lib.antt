-- Lemmas of the one list of values of a register.
pub mod Beginnings
pub mod Lasts
pub mod Moves
pub mod Tables
pub mod LastValues
pub mod Places
pub mod TurnChangeRegisters
