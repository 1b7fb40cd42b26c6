pub mod Causes
pub mod Files
pub mod Memory
pub mod Doubles
pub mod Outside
pub mod Writing
pub mod Ends
