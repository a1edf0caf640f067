-- Lemmas of tokens that do something in a statement.
pub mod Behind
pub mod Found
