mod Written
pub mod Steps
pub mod Texts
