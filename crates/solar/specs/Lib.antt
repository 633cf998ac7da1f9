pub mod Hours
pub mod Setting
pub mod Shared
pub mod PastMidnight
pub mod Times
pub mod Promises
