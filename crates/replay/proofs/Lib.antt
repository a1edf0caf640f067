-- Worked examples (Rows), and lemmas of a replay entry by entry, to its lines.
pub mod Rows
pub mod Runs
pub mod AtStart
pub mod Printed
pub mod Sent
