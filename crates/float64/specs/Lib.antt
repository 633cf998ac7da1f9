pub mod Ops
pub mod Sizes
pub mod Whole
pub mod Words
pub mod Ranges
