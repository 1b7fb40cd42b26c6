pub mod Cells
pub mod Ids
pub mod Arriving
pub mod Settled
pub mod Aboard
