pub mod ArrangedRuns
pub mod ArrangedLaws
