pub mod Taking
pub mod Beside
