pub mod Parts
pub mod Errors
pub mod Serials
pub mod Meanings
pub mod Values
pub mod Faults
pub mod TextForms
pub mod Forms
