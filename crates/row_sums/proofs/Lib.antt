mod Cuts
mod Once
pub mod Excluding
pub mod Names
mod RowNumbering
mod Greatest
mod Rowed
mod Most
mod Tiers
mod Fixing
pub mod Telling
pub mod Holding
mod Growing
mod Turning
