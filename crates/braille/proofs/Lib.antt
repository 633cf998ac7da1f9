pub mod Bits
pub mod Clock
pub mod Parts
