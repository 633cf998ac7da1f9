pub mod Counted
pub mod JulianLaws
pub mod MeeusLaws
pub mod Products
pub mod Wide
