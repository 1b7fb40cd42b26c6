pub mod Summing
pub mod Rows
pub mod BaseFirst
pub mod GreatestValues
mod Dividing
mod There
mod Numbered
mod Losing
mod TermsOnce
mod RowTerms
mod Widths
mod Filing
mod MatrixLaws
mod PartNumbers
mod PlusRows
mod Splitting
mod Stepping
pub mod Counts
mod LeastLosses
pub mod Moving
mod Loosely
