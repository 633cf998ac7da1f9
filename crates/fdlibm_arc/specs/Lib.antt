pub mod Atan
pub mod Asin
pub mod Acos
pub mod Atan2
