pub mod Few
pub mod Cases
