pub mod Bytes
pub mod Pieces
pub mod Nlri
pub mod Steps
pub mod Meant
pub mod Kinds
