-- Lemmas of workers: what they hold, and count.
pub mod Crossing
pub mod Counting
pub mod Seats
pub mod Rows
pub mod Placing
pub mod Keeping
pub mod Weighing
pub mod Places
pub mod Kept
pub mod Onward
pub mod Hands
pub mod Told
pub mod Rounds
pub mod Joining
pub mod Batching
