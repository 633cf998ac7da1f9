pub mod KSin
pub mod KCos
pub mod KTan
pub mod RemPio2
pub mod Trig
pub mod Steps
