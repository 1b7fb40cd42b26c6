pub mod RowsOrdered
pub mod Look
pub mod Multiplied
pub mod Alike
pub mod Blanks
pub mod Waiting
pub mod Back
pub mod Raising
pub mod InOrder
pub mod FirstFault
pub mod Bounding
pub mod Stepping
pub mod Numbered
pub mod Walks
pub mod Following
pub mod FewRecords
mod Named
mod GivingBack
mod LettingGo
mod TakingOut
pub mod Passing
