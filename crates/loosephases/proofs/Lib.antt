-- The proofs of the laws of phases in loose runs.
pub mod UpdatesTaken
pub mod LoosePhaseSteps
pub mod LoosePhaseRuns
pub mod Weights
pub mod PhaseEnds
pub mod Beside
pub mod HeldTurns
pub mod HeldMembers
pub mod HeldRuns
pub mod HeldRows
