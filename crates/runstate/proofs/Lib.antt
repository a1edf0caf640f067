-- Lemmas of what lies under the lock: the ledger with its mark, histories, appended entries, and that the state of a run may cross threads.
pub mod Beginnings
pub mod Ledgers
mod MarkMoves
pub mod Histories
pub mod Given
mod Guards
mod Appended
pub mod Items
pub mod Crossing
