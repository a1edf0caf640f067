pub mod Passing
pub mod HeldWays
