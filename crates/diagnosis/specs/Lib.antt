pub mod FaultLocations
pub mod Lexemes
pub mod PlainLexemes
pub mod LackedWords
pub mod Notes
pub mod SameAdvice
pub mod Kinds
