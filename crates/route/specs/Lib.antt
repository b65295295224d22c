pub mod Numbers
pub mod Route
pub mod Same
pub mod Meant
pub mod Laws
pub mod Steps
