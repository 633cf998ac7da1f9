pub mod Coordinates
pub mod Season
pub mod Southern
pub mod Shared
pub mod Sun
pub mod Transit
