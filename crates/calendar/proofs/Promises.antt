-- The calendar is the Gregorian one. Assumes nothing.
use Rattle.calendar.specs.Promises.{CalendarIsGregorian}
use Rattle.calendar.proofs.Successors.{row_zero, row-after}
use Rattle.calendar.proofs.CalendarLaws.{ordinal_first, ordinal_last, ordinal_next, day_zero, day_after, day_after_exists}
use Rattle.calendar.proofs.CalendarLaws.{day_before_exists, after_before, before_after, date_of_number, number_of_date}
use Rattle.calendar.proofs.CalendarLaws.{date_of_day_exists, weekday_zero, weekday_next}

pub calendar_is_gregorian : CalendarIsGregorian
calendar_is_gregorian =
    record {
      zero = day_zero;
      next = λ d h. (day_after_exists d h, day_after d h);
      before = before_after;
      after = λ d h n. (day_before_exists d h n, after_before d h n);
      date = date_of_number;
      number = λ z h. (date_of_day_exists z, number_of_date z h);
      ordinal_first = ordinal_first;
      ordinal_next = ordinal_next;
      ordinal_last = ordinal_last;
      row_first = row_zero;
      row_next = λ d k h. row-after d h k;
      weekday_zero = weekday_zero;
      weekday_next = weekday_next;
    }
