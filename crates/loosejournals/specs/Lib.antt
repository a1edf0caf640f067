pub mod Classes
pub mod FoundJournals
pub mod LedRuns
