pub mod Steps
pub mod Numbers
pub mod Longest
pub mod Chain
pub mod Tables
