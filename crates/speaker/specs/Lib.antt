pub mod State
pub mod Serves
pub mod Texts
