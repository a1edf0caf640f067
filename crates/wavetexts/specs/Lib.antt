pub mod AtTimes
pub mod Arrangings
pub mod Waves
pub mod Partings
pub mod ToldWaves
pub mod Names
pub mod Reading
pub mod ReadingLaws
