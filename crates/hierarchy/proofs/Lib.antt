pub mod Declared
pub mod Finished
