-- Lemmas of the regions, values and steps.
pub mod Sets
pub mod SlotLaws
pub mod Covers
mod Woken
pub mod Changes
pub mod Pasts
pub mod ChangedInTurn
pub mod Storing
pub mod Unwatched
pub mod Order
pub mod Timed
pub mod Steps
pub mod Refusals
pub mod Kept
pub mod Reserved
pub mod Counts
pub mod Firsts
pub mod Clear
pub mod Applied
pub mod Starting
pub mod MadeLaws
mod StillReads
mod Clock
pub mod Evaluated
pub mod Taken
pub mod Stepped
pub mod Given
pub mod Told
pub mod Begun
pub mod Untaken
pub mod FirstRegions
pub mod Permitted
pub mod BroughtForward
pub mod Crossing
