pub mod RowsLaws
pub mod PageLaws
pub mod Rolled
pub mod AnswerLaws
pub mod HostLaws
pub mod ReportLaws
