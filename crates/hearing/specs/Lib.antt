pub mod Hearing
pub mod Placed
pub mod Laws
