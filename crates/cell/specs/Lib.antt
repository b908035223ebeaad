pub mod Soundness
pub mod Kinds
pub mod Headers
