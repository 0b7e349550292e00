-- The least tree of a state: some tokens finish it, and no step makes it less.
pub mod Finish
pub mod Finishes
pub mod Grows
pub mod LeastNeverFalls
