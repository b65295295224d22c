pub mod Effects
pub mod World
pub mod Agree
pub mod Laws
pub mod Promise
