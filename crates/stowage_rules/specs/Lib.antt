pub mod Plan
pub mod Departure
pub mod Places
pub mod Tiers
pub mod Faults
