pub mod Sections
pub mod Finding
pub mod Update
pub mod Meant
