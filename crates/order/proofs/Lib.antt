pub mod Tags
pub mod ReadingLaws
pub mod RowDates
pub mod AcceptedLaws
pub mod Answers
pub mod OutOfRange
pub mod GivenLaws
