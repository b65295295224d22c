pub mod Tokens
pub mod Meant
pub mod Places
pub mod Spacing
