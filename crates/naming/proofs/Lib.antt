pub mod Begun
pub mod LineWords
pub mod Races
pub mod TextLaws
pub mod UnseenNames
