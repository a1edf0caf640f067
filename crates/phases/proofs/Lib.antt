-- The proofs of the laws of phases.
pub mod Values
pub mod Changes
pub mod Members
pub mod Events
pub mod PhaseSteps
pub mod PhaseRuns
pub mod Blocks
