-- Worked examples (Rows, SourceRows), and the proofs of the laws.
pub mod Rows
pub mod SourceRows
pub mod TurnLaws
pub mod TurnCaseLaws
pub mod RunLaws
pub mod EvaluationLaws
pub mod StepLaws
pub mod PlaceLaws
pub mod JournalLaws
