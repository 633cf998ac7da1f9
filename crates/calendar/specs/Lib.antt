pub mod Gregorian
pub mod Days
pub mod Answers
pub mod Counted
pub mod Promises
