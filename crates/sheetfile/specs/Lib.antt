pub mod Bytes
pub mod CellCode
pub mod Contents
pub mod Files
pub mod Reading
