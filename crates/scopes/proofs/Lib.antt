pub mod Adding
pub mod Lookups
pub mod Growing
pub mod Told
