pub mod Departing
