pub mod Trees
pub mod Constants
pub mod Integers
