pub mod Bytes
pub mod Settings
pub mod Faults
pub mod Size
pub mod Unread
pub mod Frame
pub mod Laws
