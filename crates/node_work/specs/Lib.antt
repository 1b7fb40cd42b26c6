pub mod Adopting
pub mod Built
pub mod States
pub mod DualStates
pub mod Positions
pub mod Starts
pub mod Solvers
