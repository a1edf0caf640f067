pub mod Loose
pub mod Classes
pub mod LooseLaws
