pub mod TextLines
pub mod Spots
pub mod PlainSpots
pub mod SourceLocations
pub mod ShownText
