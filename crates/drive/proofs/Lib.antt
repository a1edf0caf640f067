-- Lemmas of a journal that is led through a gate: the one seat, its tickets, each step, and how the run is judged.
pub mod Alone
pub mod Lists
pub mod Tickets
pub mod Steps
pub mod Ending
pub mod Judging
pub mod Leading
pub mod Firsts
pub mod Running
pub mod Seats
pub mod Splits
