mod Items
mod Lists
mod Cells
mod Whole
mod Rows
