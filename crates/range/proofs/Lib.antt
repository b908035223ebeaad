pub mod Places
pub mod ShapeLaws
pub mod Taking
pub mod WalkLaws
pub mod Filling
pub mod UsedLaws
