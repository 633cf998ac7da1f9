pub mod Braille
pub mod Cells
