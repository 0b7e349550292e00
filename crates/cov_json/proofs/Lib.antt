mod Searching
mod Objects
mod Floats
mod Rows
