-- Lemmas of statuses, ends and searches.
pub mod Causing
pub mod Compared
pub mod Early
pub mod Ended
pub mod Endings
pub mod Explained
pub mod Few
pub mod Followed
pub mod Knowing
pub mod Sampled
pub mod Searched
pub mod Statuses
pub mod Subjects
pub mod StopsMore
pub mod Waved
