-- Targets of nonblocking assignments (AddedTargets), classes that are given other names (Renaming), and those of processes (Together).
pub mod AddedTargets
pub mod Renaming
pub mod Together
