pub mod Slots
pub mod Texts
pub mod Meant
pub mod Laws
