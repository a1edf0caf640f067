-- What a run leaves.
pub mod Placed
pub mod Outcomes
