pub mod ByteClasses
pub mod Kinds
pub mod Lexing
pub mod Lengths
pub mod Places
