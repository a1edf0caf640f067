-- Lemmas of tokens, of words, and of notes.
pub mod Tellings
pub mod Lexed
pub mod Noted
pub mod FirstNotes
