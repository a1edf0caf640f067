-- The proofs of the laws of footprints.
pub mod Waking
pub mod ValueChanges
pub mod Deeds
pub mod Exchange
pub mod EndedTriggers
pub mod Steps
pub mod StepsApart
pub mod Waiting
pub mod AlikeFootprints
pub mod WaitingActors
pub mod LooseMoves
pub mod Swaps
pub mod MoveRuns
pub mod FootprintRows
