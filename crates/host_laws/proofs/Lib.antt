pub mod GotLaws
pub mod WrittenLaws
pub mod Witness
