pub mod Footprints
pub mod FootprintLaws
pub mod Moves
