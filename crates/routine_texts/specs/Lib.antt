pub mod Processes
pub mod Routines
pub mod Calls
pub mod Tables
