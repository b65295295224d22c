pub mod State
pub mod Course
pub mod Buffer
