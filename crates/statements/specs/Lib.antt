pub mod TokenContexts
pub mod Contexts
pub mod Parts
pub mod PlainStatementTokens
pub mod StatementTokens
pub mod StatementLines
