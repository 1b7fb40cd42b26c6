pub mod Sides
pub mod Rule
pub mod Kept
pub mod Quays
pub mod Turns
pub mod Calls
pub mod Law
