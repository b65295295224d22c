pub mod Ascii
pub mod Digits
