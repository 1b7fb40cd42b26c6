pub mod Steps
pub mod Uptos
pub mod Counted
