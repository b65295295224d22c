pub mod Room
pub mod Few
pub mod Table
