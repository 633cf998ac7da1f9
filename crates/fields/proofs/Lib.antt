pub mod Joining
pub mod Walking
pub mod FieldsLaws
pub mod Collecting
pub mod LookupLaws
