pub mod Phase
pub mod Combinational
