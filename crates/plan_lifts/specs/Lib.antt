pub mod Least
pub mod Spread
pub mod Lifted
pub mod Passes
