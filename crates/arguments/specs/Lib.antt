pub mod Observing
pub mod Arguments
pub mod Options
pub mod CommandWords
pub mod VerilogWords
