pub mod Table
pub mod Rows
pub mod Sentences
pub mod Guess
pub mod Promises
