pub mod Shortness
pub mod Rows
pub mod Sending
