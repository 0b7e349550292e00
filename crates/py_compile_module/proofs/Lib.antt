mod NamesOfDefs
mod Turns
