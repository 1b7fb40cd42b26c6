pub mod Ends
pub mod Starts
pub mod Together
pub mod Tallied
