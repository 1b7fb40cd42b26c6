pub mod Summing
pub mod Multiplied
pub mod RowsListed
pub mod Touched
pub mod Pricing
pub mod Placing
pub mod Raises
pub mod Flat
pub mod TermsMore
pub mod Keeping
pub mod CrossSums
pub mod Offering
pub mod BaseFlat
pub mod Leaning
mod Shortened
