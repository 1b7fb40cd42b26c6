pub mod Names
pub mod Inputs
pub mod Booked
pub mod Named
pub mod Reading
pub mod Files
pub mod Judged
pub mod Lines
