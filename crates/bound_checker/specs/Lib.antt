pub mod Entries
pub mod Faults
pub mod Sums
pub mod Waits
pub mod Prices
pub mod Named
pub mod Walks
pub mod Subtrees
