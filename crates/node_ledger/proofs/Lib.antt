mod Numbering
mod Shuffles
mod Order
mod Parting
