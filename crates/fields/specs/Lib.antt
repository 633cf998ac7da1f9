pub mod Numbers
pub mod Tags
pub mod Fields
pub mod Values
pub mod Lookup
