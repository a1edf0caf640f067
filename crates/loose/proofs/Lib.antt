-- The proofs of the laws of loose orders.
pub mod ClassLists
pub mod ClassFutures
pub mod ClassStates
pub mod LooseSteps
pub mod ClassSteps
pub mod ClassEnds
pub mod LooseRuns
pub mod LooseRows
