pub mod Values
pub mod Arrays
