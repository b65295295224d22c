pub mod Reading
pub mod Meant
pub mod Sizes
