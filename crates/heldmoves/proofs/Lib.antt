-- The proofs that steps of the others are moves while some processes are held.
pub mod LeftAside
pub mod BesideHeld
pub mod OfOthers
