mod RowsTell
pub mod Steps
pub mod Findings
mod Replaying
mod Adding
mod Rising
pub mod Weights
pub mod Handled
pub mod Own
pub mod Jobs
