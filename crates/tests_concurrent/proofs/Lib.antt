-- Lemmas of the seats of all workers, and of turns that one seat evaluates one after another.
mod Seats
mod Batching
