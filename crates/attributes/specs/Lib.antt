pub mod Layout
pub mod AsPath
pub mod Gathering
pub mod Meaning
pub mod Meant
