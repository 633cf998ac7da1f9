-- What an order asks for, in numbers, as a host gets it. The refusal's number and place are 0 if nothing is refused. Each other field is 0
-- if the order is refused.
use Rattle.std.specs.Prelude.{ℕ, Bool, cond, List, pos, Err, Ok, Result}
use Rattle.integers.specs.Parts.{P}
use Rattle.float64.specs.Ops.{dec}
use Rattle.models.specs.Numbers.{method_number_of, madhab_number_of, rule_number_of, rounding_number_of, shafaq_number_of, midnight_number_of}
use Rattle.models.specs.Numbers.{southern_number_of}
use Rattle.calendar.specs.Gregorian.{date_of}
use Rattle.unit.specs.Unit.{coordinates_of}
use Rattle.models.specs.Minutes.{no_minutes}
use Rattle.refusals.specs.Refusals.{no_refusal}
use Rattle.refusals.specs.declared.Refusal.{Refusal}
use Rattle.order.specs.declared.reading.Order.{Order}
use Rattle.order.specs.Reading.{reading_of}
use Rattle.order_numbers.specs.declared.numbers.Choices.{Choices}
use Rattle.order_numbers.specs.declared.numbers.OrderNumbers.{OrderNumbers}

-- 1 if tag 20 is there
unfoldable pub set_number_of : Bool → ℕ
set_number_of set = cond set 1 0

-- what tags 15 to 17 and 20 choose
abbrev pub choices_numbers_of : Order → Choices
choices_numbers_of o = record {
  carry = midnight_number_of o.setting.rules.midnight;
  clock = o.clock;
  southern = southern_number_of o.setting.rules.southern;
  ramadan = set_number_of o.ramadan.set;
  imsak = o.ramadan.imsak;
  shift = o.ramadan.shift;
}

abbrev pub no_choices_numbers : Choices
no_choices_numbers = record { carry = 0; clock = pos 0; southern = 0; ramadan = 0; imsak = 0; shift = pos 0 }

unfoldable pub order_read : Order → OrderNumbers
order_read o =
    let p = o.setting.parameters in
    record {
      refusal = no_refusal;
      town = o.town;
      date = o.date;
      rows = o.rows;
      coordinates = o.setting.coordinates;
      fajr_angle = p.fajr_angle;
      isha_angle = p.isha_angle;
      method = method_number_of p.method;
      madhab = madhab_number_of p.madhab;
      high_latitude_rule = rule_number_of p.high_latitude_rule;
      rounding = rounding_number_of p.rounding;
      shafaq = shafaq_number_of p.shafaq;
      isha_interval = P p.isha_interval;
      minutes = p.adjustments;
      choices = choices_numbers_of o;
    }

unfoldable pub order_refused : Refusal → OrderNumbers
order_refused r =
    record {
      refusal = r;
      town = record { at = 0; length = 0 };
      date = date_of 0 0 0;
      rows = 0;
      coordinates = coordinates_of (dec 0 0) (dec 0 0);
      fajr_angle = dec 0 0;
      isha_angle = dec 0 0;
      method = 0;
      madhab = 0;
      high_latitude_rule = 0;
      rounding = 0;
      shafaq = 0;
      isha_interval = 0;
      minutes = no_minutes;
      choices = no_choices_numbers;
    }

unfoldable pub order_numbers_in : Result Order Refusal → OrderNumbers
order_numbers_in (Ok o) = order_read o
order_numbers_in (Err r) = order_refused r

unfoldable pub order_numbers_of : List ℕ → OrderNumbers
order_numbers_of s = order_numbers_in (reading_of s)
