pub mod Hundredths
pub mod Owed
pub mod Written
pub mod Promises
