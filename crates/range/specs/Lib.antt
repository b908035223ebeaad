pub mod Shapes
pub mod Areas
pub mod Making
pub mod Sheets
pub mod Walks
pub mod Used
