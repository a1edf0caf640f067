pub mod Observers
pub mod Observations
pub mod AsciiFormats
pub mod OneWave
