pub mod Finding
pub mod Help
pub mod Lines
pub mod Nearest
pub mod Place
pub mod Repeated
