pub mod Quarters
pub mod Shifts
pub mod Signs
