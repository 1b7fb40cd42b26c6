pub mod Command
pub mod Numbers
pub mod Orders
pub mod Plain
pub mod Own
