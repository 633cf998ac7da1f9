pub mod ReportsLaws
