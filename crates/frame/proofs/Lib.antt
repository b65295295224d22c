pub mod Peers
pub mod Numbers
pub mod Unread
pub mod Sizes
pub mod Begins
pub mod Laws
