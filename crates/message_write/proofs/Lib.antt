pub mod Puts
pub mod Sizes
pub mod Messages
