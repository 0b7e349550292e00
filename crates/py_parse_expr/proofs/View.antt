-- What the code holds and does is what the machine says.
pub mod ExprClasses
pub mod ExprNodes
pub mod ExprFrames
pub mod ExprSteps
pub mod ExprFields
pub mod ExprReader
