-- The names of this crate that the crates above use, in one place. Nothing is added.
pub use Rattle.calendar.proofs.CalendarLaws.{row_first, row_next, number_of_date, date_of_day_exists, days_between}
pub use Rattle.prelude.proofs.Computed.{tested, when}
pub use Rattle.calendar.proofs.Existing.{count, ordinal_within, ordinal_short, exists_yes, month_of_date, ordinal_is}
pub use Rattle.calendar.proofs.Successors.{row_is, row-tomorrow, year_after, back}
pub use Rattle.calendar.proofs.YearSteps.{year_mono, year_step}
unfoldable pub use Rattle.calendar.specs.Answers.{held_of, from_of}
pub use Rattle.calendar.specs.Answers.{row_date_of, tomorrow_of}
unfoldable pub use Rattle.calendar.specs.Days.{days_before_of, ordinal_of, days_before_year_of, day_number_of, days_in_year_of, date_of_day_of}
unfoldable pub use Rattle.calendar.specs.Days.{count_below, month_of, of_ordinal_of, last_by, year_of, date_at_of}
unfoldable pub use Rattle.calendar.specs.Gregorian.{leap_of, length_of, exists_of, day_after_of}
pub use Rattle.calendar.specs.Gregorian.{date_of}
