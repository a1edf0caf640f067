pub mod Scopes
pub mod Names
pub mod Faults
pub mod Trees
