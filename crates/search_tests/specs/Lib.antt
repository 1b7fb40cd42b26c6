pub mod Voyages
