pub mod Heard
pub mod Placing
