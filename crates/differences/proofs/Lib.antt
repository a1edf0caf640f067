-- Lemmas of the times of two runs, of who gave a register its value, of runs that are followed, and of what is told of them.
pub mod TimeLaws
pub mod Given
pub mod Follow
pub mod Told
pub mod FirstRows
