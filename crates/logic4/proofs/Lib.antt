-- Worked examples (Rows), and lemmas of digits in two words, tables, and texts.
pub mod Rows
pub mod Formulas
pub mod Tables
pub mod Words
pub mod Reductions
pub mod Pairs
pub mod Places
pub mod Marks
pub mod Texts
pub mod Bytes
pub mod Extended
pub mod Signs
pub mod Lengths
pub mod Widths
