pub mod Spelling
pub mod Reading
pub mod Ids
pub mod Rules
pub mod BookedCargo
