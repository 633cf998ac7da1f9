pub mod Julian
pub mod Meeus
