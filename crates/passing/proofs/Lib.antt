-- The proofs that what is tested of moves says that processes sleep.
pub mod Found
pub mod Closed
pub mod Deaf
pub mod Written
pub mod Evaluated
pub mod ChosenMoves
pub mod Chosen
pub mod Members
pub mod Nobody
