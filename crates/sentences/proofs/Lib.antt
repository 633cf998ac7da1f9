pub mod Lines
pub mod Guessing
pub mod Comparing
pub mod Promises
pub mod Making
pub mod Steps
