-- Each Julian Day is its date's, so that each position and each course is what the definition has.
use Rattle.prelude.proofs.Logic.{sym, ap, ◌∙◌}
use Rattle.julian.specs.Julian.{date_julian_day_of}
use Rattle.ops.proofs.SharedLaws.{mean_place, mean_sidereal}
use Rattle.schedule.specs.RowSuns.{courses_of}
use Rattle.schedule.proofs.rolling.Courses.new.Goals as goal

pub julian_day_after-next_day-requires : goal.julian_day_after-next_day-requires
julian_day_after-next_day-requires c = (c.tomorrow-next.ensures, c.date_julian_day-day.ensures)

pub julian_day_after-second_day-requires : goal.julian_day_after-second_day-requires
julian_day_after-second_day-requires c =
    (c.tomorrow-second.ensures, c.julian_day_after-next_day.ensures ∙ ap date_julian_day_of (sym c.tomorrow-next.ensures))

pub julian_day_after-third_day-requires : goal.julian_day_after-third_day-requires
julian_day_after-third_day-requires c =
    (c.tomorrow-third.ensures, c.julian_day_after-second_day.ensures ∙ ap date_julian_day_of (sym c.tomorrow-second.ensures))

-- the position at hand is the date's
pub place_before_tomorrow-before_next-requires : goal.place_before_tomorrow-before_next-requires
place_before_tomorrow-before_next-requires c =
    simp (c.place-at_date.ensures, c.new-mean.ensures, c.date_julian_day-day.ensures, mean_place)

-- and here tomorrow's
pub place_before_tomorrow-before_second-requires : goal.place_before_tomorrow-before_second-requires
place_before_tomorrow-before_second-requires c =
    simp (
      c.place-at_next.ensures,
      c.new-mean_next.ensures,
      c.julian_day_after-next_day.ensures,
      c.tomorrow-next.ensures,
      mean_place,
    )

pub returns : goal.returns
unfolding courses_of
returns c =
    simp (
      c.new-3.ensures,
      c.new-2.ensures,
      c.new.ensures,
      c.sidereal_time-sidereal_second.ensures,
      c.sidereal_time-sidereal_next.ensures,
      c.sidereal_time-sidereal.ensures,
      c.place_before_tomorrow-before_second.ensures,
      c.place_before_tomorrow-before_next.ensures,
      c.new-at_third.ensures,
      c.place-at_second.ensures,
      c.place-at_next.ensures,
      c.place-at_date.ensures,
      c.place-before.ensures,
      c.yesterday.ensures,
      c.new-mean_second.ensures,
      c.new-mean_next.ensures,
      c.new-mean.ensures,
      c.julian_day_after-third_day.ensures,
      c.julian_day_after-second_day.ensures,
      c.julian_day_after-next_day.ensures,
      c.date_julian_day-day.ensures,
      c.tomorrow-second.ensures,
      c.tomorrow-next.ensures,
      c.new-observer.ensures,
      mean_place,
      mean_sidereal,
    )
