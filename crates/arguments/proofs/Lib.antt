-- Lemmas of words and options.
pub mod GivenLemmas
pub mod WordLemmas
pub mod ObservedWords
pub mod SecondWord
pub mod TaskLemmas
pub mod FormedLemmas
pub mod SaidLemmas
