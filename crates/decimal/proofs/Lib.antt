pub mod Parting
pub mod Tens
pub mod Scales
pub mod Amounts
pub mod Readings
pub mod Literals
