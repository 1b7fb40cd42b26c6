pub mod Keys
pub mod Stacks
pub mod Covers
pub mod Separations
pub mod ShipText
pub mod SharedCells
pub mod ClassPairs
pub mod Positions
