pub mod Extension
pub mod Lengths
pub mod Widened
pub mod Integers
pub mod Evaluated
