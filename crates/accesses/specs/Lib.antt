pub mod AccessLogs
pub mod Roles
pub mod ExchangedEntries
