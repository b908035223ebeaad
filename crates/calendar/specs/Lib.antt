pub mod Calendar
pub mod Clock
pub mod Bounds
pub mod Serial
