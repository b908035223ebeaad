pub mod Years
mod Months
pub mod Unique
pub mod Days
mod Rounding
pub mod Fractions
pub mod Acceptance
mod Replies
