pub mod Readings
pub mod Course
pub mod Windows
