pub mod Laws
pub mod Pairs
pub mod Sailed
pub mod Stays
pub mod Assigned
