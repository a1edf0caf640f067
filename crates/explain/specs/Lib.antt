pub mod Phrases
pub mod EntryLines
pub mod EntryText
pub mod Wanted
pub mod ExplainedEnd
pub mod Explained
pub mod ExplainedText
pub mod Sent
