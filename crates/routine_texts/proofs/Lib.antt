mod Arguments
mod CallsLeft
pub mod Processes
pub mod Tables
