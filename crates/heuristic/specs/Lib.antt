pub mod Keeping
pub mod Offers
pub mod Sailors
pub mod Trades
