pub mod Rest
pub mod Rows
