pub mod Pages
pub mod Answers
pub mod Host
pub mod Reports
pub mod Promises
