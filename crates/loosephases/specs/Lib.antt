pub mod LoosePhase
pub mod Held
