pub mod Registers
pub mod FirstFindings
pub mod Formats
pub mod Small
pub mod ModuleFaults
pub mod Formed
