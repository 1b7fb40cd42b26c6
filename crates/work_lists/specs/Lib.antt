pub mod Shown
pub mod WorkLists
