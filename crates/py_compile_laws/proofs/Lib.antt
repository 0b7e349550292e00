mod Nothing
mod Patterns
mod Parameters
mod Bodies
mod Law
