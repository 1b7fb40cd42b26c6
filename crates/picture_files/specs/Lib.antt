pub mod Asked
pub mod Reading
pub mod Work
pub mod Ends
