pub mod Witness
pub mod MinutesLaws
pub mod NothingBreaksLaws
pub mod RulesInOrderLaws
pub mod PrintedLaws
pub mod FormerRowsLaws
pub mod EitherFormLaws
pub mod SwappedLaws
