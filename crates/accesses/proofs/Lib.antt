-- Lemmas of machines that are led along a journal, of what they see, and of lists.
pub mod Leading
pub mod Pairs
pub mod Swapped
