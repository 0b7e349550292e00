-- What a whole list of tokens is, said of all trees.
pub mod ExprWhole
