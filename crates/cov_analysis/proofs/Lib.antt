mod Rounding
mod Percentages
mod Sums
mod Totals
pub mod Keeping
mod Searching
mod Raising
mod Counting
mod Branching
mod Rising
mod Ordered
mod Telling
mod Rows
mod Among
mod LastLines
mod FirstLines
mod NextLines
mod Bodies
mod Leaving
mod Many
pub mod Reporting
