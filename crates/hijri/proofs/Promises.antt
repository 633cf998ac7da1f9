-- The calendar is the tabular Islamic one. Assumes nothing.
use Rattle.hijri.specs.Promises.{CalendarIsTabular}
use Rattle.hijri.proofs.RamadanLaws.{start_yes, start_only}
use Rattle.hijri.proofs.ThereAndBack.{back_and_there, order-date}
use Rattle.hijri.proofs.TabularLaws.{first_day, first_exists, day_after, day_after_exists, date_of_number, number_of_date}
use Rattle.hijri.proofs.TabularLaws.{date_of_day_exists}

pub calendar_is_tabular : CalendarIsTabular
calendar_is_tabular =
    record {
      first = (first_exists, first_day);
      next = λ d h. (day_after_exists d h, day_after d h);
      date = date_of_number;
      number = λ z h. (date_of_day_exists z, number_of_date z h);
      there_and_back = order-date;
      back_and_there = back_and_there;
      start = start_yes;
      only = start_only;
    }
