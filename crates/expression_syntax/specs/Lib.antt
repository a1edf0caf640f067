pub mod Texts
pub mod Spelling
pub mod Places
pub mod Operators
pub mod Attributes
pub mod ExpressionGrammar
