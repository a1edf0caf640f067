pub mod Gathering
pub mod Names
pub mod Meant
pub mod Nodes
pub mod Clocks
pub mod Tens
