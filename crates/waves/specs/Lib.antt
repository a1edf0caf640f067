pub mod IdentifierCodes
pub mod Dump
pub mod Waves
pub mod Changes
pub mod FullNames
pub mod ScopedDump
