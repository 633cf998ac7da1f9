pub mod Lines
pub mod Since
