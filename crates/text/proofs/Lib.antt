pub mod Whole
pub mod Strips
pub mod TrimLaws
pub mod TrimPart
pub mod LibraryTrim
pub mod NameLaws
