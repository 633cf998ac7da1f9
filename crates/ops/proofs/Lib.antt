pub mod SeasonLaws
pub mod SeasonSizes
pub mod SouthernLaws
pub mod SharedLaws
pub mod Between
pub mod Wrapped
