-- A desk in memory as one value with the answers of its calls, and the files on its shelf.
pub mod Memory
pub mod Shelf
