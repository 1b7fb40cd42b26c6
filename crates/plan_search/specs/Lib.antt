pub mod Loaded
pub mod Trees
pub mod Certified
pub mod Found
