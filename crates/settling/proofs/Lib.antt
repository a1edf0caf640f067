-- The proofs that tests tell a phase.
pub mod Listed
pub mod Leaving
pub mod Differing
pub mod Places
pub mod Standings
pub mod Phases
pub mod Since
pub mod Tested
pub mod Sleeping
