pub mod Printed
pub mod Puts
