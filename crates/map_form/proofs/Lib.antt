pub mod Fields
pub mod Limits
pub mod NearestLaws
pub mod Quotient
pub mod Range
pub mod Rounding
pub mod RoundTrip
pub mod Signs
