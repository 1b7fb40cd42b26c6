pub mod Gaps
pub mod Climbs
pub mod Pairs
