pub mod TimesLaws
pub mod Minutes
pub mod Saturation
