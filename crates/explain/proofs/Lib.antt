-- Lemmas of texts, of which entries are told, of one entry more, of what is sent, of the line of one entry, and of which fault a call ends with.
pub mod Pieces
pub mod LineRegisters
pub mod Next
pub mod Sending
pub mod Ends
pub mod EntryText
