pub mod Gathered
pub mod Preorder
