-- Lemmas of the gate: what seats have seen and met, validation, what holds at the lock and after each step, rests, ends, and that a gate may cross threads, and several updates one after another.
mod Agreeing
mod Staying
mod AtLock
mod Currents
mod Firsts
mod Guards
mod Readings
mod Standings
mod Meetings
mod Tellings
mod Unwritten
mod Validating
pub mod Crossing
mod Rests
mod Waits
mod Resting
mod Counting
mod Openings
mod Barring
mod Evaluating
pub mod Batches
