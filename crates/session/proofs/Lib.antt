pub mod Beats
pub mod Silence
pub mod Keepalives
