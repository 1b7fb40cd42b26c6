mod Premises
mod Keeping
mod JudgedKeys
mod Answering
pub mod Ways
mod Listed
mod Halves
mod Standing
mod Rounds
mod Totals
mod Raising
mod Fixed
mod JudgedRecords
