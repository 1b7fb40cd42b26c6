mod Pairs
mod Together
mod Rests
mod Under
pub mod Tallying
mod Ends
