pub mod Names
pub mod Phrases
pub mod Operators
pub mod Expressions
pub mod Formats
pub mod Statements
pub mod Modules
