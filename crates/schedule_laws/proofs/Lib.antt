pub mod Spans
pub mod SunSpans
pub mod OrderMinutes
pub mod RangeLaws
pub mod InForceLaws
pub mod Moves
pub mod LaterLaws
pub mod StartLaws
