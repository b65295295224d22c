pub mod Recursions
