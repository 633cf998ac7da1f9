pub mod Lengths
pub mod Answers
pub mod Rolled
pub mod SheetLaws
