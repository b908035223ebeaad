pub mod Grammar
pub mod Amount
pub mod Fault
pub mod Answer
