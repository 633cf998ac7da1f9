pub mod MeaningLaws
pub mod LineLaws
pub mod ReportLaws
pub mod MinuteLaws
pub mod PrintedLaws
pub mod PromisesLaws
