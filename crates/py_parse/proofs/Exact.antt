-- The machine is exact: it reads the lists that spell a module, and refuses each other one in time.
pub mod WholeLists
pub mod Whole
pub mod WholeTokens
pub mod WholeStands
pub mod LineEndsExpr
pub mod Marks
pub mod Moves
pub mod Walk
pub mod PatternWalk
pub mod ReadsBetween
