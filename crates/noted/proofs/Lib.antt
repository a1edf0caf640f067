-- Lemmas of lists that grow, of the changes that writes make, of the processes that these wake, and of notes.
pub mod Growing
pub mod Behind
pub mod Woken
pub mod Noted
