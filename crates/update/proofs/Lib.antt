pub mod Types
pub mod Finds
pub mod Parts
pub mod Judging
