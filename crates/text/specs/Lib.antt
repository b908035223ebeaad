pub mod Encoding
pub mod WhiteSpace
pub mod Trimming
pub mod Naming
