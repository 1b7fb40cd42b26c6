mod Numbered
mod Led
mod Pairs
mod Works
