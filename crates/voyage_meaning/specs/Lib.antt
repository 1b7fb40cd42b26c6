pub mod Moves
pub mod Voyage
pub mod Berths
pub mod Refusals
pub mod Numbering
pub mod Stacks
pub mod Runs
