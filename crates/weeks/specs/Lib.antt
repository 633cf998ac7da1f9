pub mod Windows
pub mod Meaning
pub mod Lines
pub mod Report
pub mod Promises
pub mod Kept
