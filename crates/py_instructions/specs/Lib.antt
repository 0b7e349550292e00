pub mod Operands
pub mod Locals
pub mod View
pub mod Reaching
pub mod AtOnce
pub mod Carried
