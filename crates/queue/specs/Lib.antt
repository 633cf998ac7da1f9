pub mod Jobs
pub mod History
pub mod Arrays
pub mod Host
pub mod Promises
pub mod Parts
