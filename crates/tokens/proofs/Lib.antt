-- Worked examples (Rows), and lemmas of pieces, literals and the longest cut.
pub mod Ascii
pub mod Steps
pub mod Numbers
pub mod Decimals
pub mod LiteralValues
pub mod Firsts
pub mod Longest
pub mod Chain
mod Rows
