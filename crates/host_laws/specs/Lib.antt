pub mod Got
pub mod Written
