pub mod Frames
pub mod Outbox
pub mod Laws
pub mod Message
