pub mod PartsLaws
pub mod Sums
pub mod QuotientLaws
pub mod OrderLaws
pub mod Ranges
pub mod Intervals
pub mod Held
pub mod Integers
