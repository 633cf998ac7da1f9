pub mod Dates
pub mod Functions
pub mod Days
pub mod Readers
