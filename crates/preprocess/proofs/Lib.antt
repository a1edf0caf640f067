pub mod Standing
pub mod PlainFiles
pub mod Substitution
pub mod Sourced
