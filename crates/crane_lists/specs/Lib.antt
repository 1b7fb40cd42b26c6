pub mod Tasks
pub mod Bays
pub mod Rounds
pub mod Least
pub mod Reaches
pub mod Sharing
