pub mod Lists
pub mod Purposes
pub mod Shapes
pub mod Pictures
pub mod Ends
