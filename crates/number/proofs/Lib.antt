pub mod Zero
pub mod Narrowing
pub mod Reading
pub mod Printing
pub mod Wholes
