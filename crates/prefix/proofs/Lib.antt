pub mod Halves
pub mod Order
pub mod Descent
pub mod Within
