pub mod Nesting
pub mod Spells
pub mod TextFaults
