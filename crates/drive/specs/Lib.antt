pub mod Driven
pub mod Leading
