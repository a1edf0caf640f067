pub mod Sole
pub mod EventWays
pub mod LooseWalking
pub mod Checkpoints
pub mod TimeStops
pub mod Attempts
pub mod Certified
pub mod Held
