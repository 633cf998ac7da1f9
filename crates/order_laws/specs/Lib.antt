pub mod NothingBreaks
pub mod RulesInOrder
pub mod Printed
pub mod Imsak
pub mod Minutes
pub mod FormerRows
pub mod EitherForm
pub mod Swapped
