-- Lemmas of names, sizes and faults: what is looked up, what is found, and designs without faults.
pub mod Bodies
pub mod Found
pub mod Lookups
pub mod Reading
pub mod Settled
pub mod Sizes
pub mod Sound
pub mod Turns
pub mod Whole
