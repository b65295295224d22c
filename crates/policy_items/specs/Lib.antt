pub mod Items
pub mod Meant
pub mod Limits
