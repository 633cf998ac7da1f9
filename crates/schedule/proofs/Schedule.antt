-- What the functions of this crate and the crates above use of it, from one place. Nothing is added.
pub use Rattle.std.specs.Prelude.{Some}
pub use Rattle.schedule.proofs.FajrLaws.{fajr-alone}
pub use Rattle.schedule.proofs.Promises.{of_near, of_from, held_middle, held_last_third, both, on_start, held_seventh}
pub use Rattle.schedule.proofs.SharedLaws.{row_shared, since-unasked}
pub use Rattle.schedule.proofs.Short.{short_near, short_is}
pub use Rattle.schedule.proofs.Starts.{start_near}
unfoldable pub use Rattle.schedule.specs.Fajr.{fajr_in, fajr_alone_of}
unfoldable pub use Rattle.schedule.specs.Hours.{hours_of, numbered_of, suns_of}
unfoldable pub use Rattle.schedule.specs.InForce.{current_number_of, last_of, ahead_of, time_of, following_current_of, hours_minutes_of}
unfoldable pub use Rattle.schedule.specs.InForce.{until_of}
pub use Rattle.schedule.specs.InForce.{current_time_of, next_of, NotAfter}
unfoldable pub use Rattle.schedule.specs.Numbers.{numbers_of}
unfoldable pub use Rattle.schedule.specs.Times.{start_of, final_of, fajr_tomorrow_of, middle_of_the_night_of, qiyam_of, from_midnight_of}
unfoldable pub use Rattle.schedule.specs.Times.{started_of, started_in, since_from, since_of}
pub use Rattle.models.specs.Chosen.{season_of, setting_of}
pub use Rattle.schedule.specs.Times.{worked_of, worked_by, since_at, worked_at}
pub use Rattle.schedule.specs.Each.{Each}
unfoldable pub use Rattle.schedule.specs.Each.{NearIn}
unfoldable pub use Rattle.schedule.specs.Twilight.{night_of, or_of, by_season_of, short_of, before_sunrise_of, unadjusted_fajr_of}
unfoldable pub use Rattle.schedule.specs.Twilight.{after_sunset_of, isha_bound_of, bounded_isha_of, unadjusted_isha_of, later_of, earlier_of}
unfoldable pub use Rattle.schedule.specs.Twilight.{by_seventh_of, own_of}
pub use Rattle.schedule.specs.Twilight.{next_day_of, fajr_bound_of}
