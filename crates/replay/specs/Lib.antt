pub mod Replays
pub mod JournalFaults
pub mod ReplayBytes
