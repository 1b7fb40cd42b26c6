pub mod Entries
pub mod Few
pub mod FirstFault
pub mod Grammar
pub mod KeptRows
pub mod Reading
pub mod Text
pub mod Stuck
