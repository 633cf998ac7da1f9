pub mod Numbers
pub mod Bytes
pub mod Values
pub mod Writing
pub mod Promises
