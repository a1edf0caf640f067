pub mod Deeds
pub mod RunNumbers
