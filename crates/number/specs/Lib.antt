pub mod Widths
pub mod Nearness
pub mod Numerals
pub mod Forms
pub mod Stamp
pub mod Back
