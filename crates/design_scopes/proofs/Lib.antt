pub mod NamesApart
pub mod NameSets
pub mod Indices
pub mod Bounds
pub mod Declaring
pub mod BlockNames
