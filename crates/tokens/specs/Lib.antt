pub mod ByteClasses
pub mod Literals
pub mod Tokens
pub mod Lexing
pub mod Lengths
