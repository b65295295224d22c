pub mod Numerals
pub mod Segments
