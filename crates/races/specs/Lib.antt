pub mod LineOrders
pub mod Races
pub mod Unseen
