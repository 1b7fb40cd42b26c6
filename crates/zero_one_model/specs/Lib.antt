pub mod Building
pub mod Built
pub mod Indexed
pub mod Parts
pub mod Runs
