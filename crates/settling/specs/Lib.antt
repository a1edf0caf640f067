pub mod Settling
pub mod Waiting
pub mod LogicStanding
pub mod Settled
