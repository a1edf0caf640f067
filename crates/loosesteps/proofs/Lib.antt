-- Lemmas of loose steps that a machine takes.
pub mod Forward
pub mod ForwardStates
pub mod FirstOfKind
pub mod BroughtFirst
pub mod EntriesFor
pub mod AlikeTaken
pub mod Gathering
pub mod ChoiceLaws
