pub mod Landing
pub mod Freeing
pub mod Walking
mod Steps
pub mod Falling
mod Calming
mod Ones
mod Idle
mod CalmRows
mod Trails
mod Looks
mod Freed
