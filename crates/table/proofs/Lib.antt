pub mod Lookups
pub mod Counting
pub mod Orders
pub mod Changes
pub mod Places
