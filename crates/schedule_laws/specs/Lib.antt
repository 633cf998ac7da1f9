pub mod Range
pub mod Later
