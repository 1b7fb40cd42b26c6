mod Climbing
mod PairKeys
mod PairSums
mod Scoring
