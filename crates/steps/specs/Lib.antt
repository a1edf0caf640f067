pub mod Accounts
pub mod Cells
pub mod ExplainerStanding
