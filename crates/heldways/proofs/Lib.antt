-- The proofs that held processes settle in one way, whichever events of the others come first, and that sleepers sleep through it.
pub mod OneEventEach
pub mod WaysKept
pub mod HeldEnds
pub mod Asleep
pub mod Passed
pub mod AsleepWays
pub mod AsleepRuns
pub mod AsleepEnds
pub mod HeldCovering
