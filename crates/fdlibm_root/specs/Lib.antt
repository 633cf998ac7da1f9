pub mod Root
pub mod Near
pub mod Nearest
