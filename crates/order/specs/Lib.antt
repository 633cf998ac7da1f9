pub mod Given
pub mod Ranges
pub mod Reading
pub mod Accepted
