pub mod Literals
