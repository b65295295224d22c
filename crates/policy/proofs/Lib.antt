pub mod Beginnings
pub mod Recursions
pub mod Verdicts
