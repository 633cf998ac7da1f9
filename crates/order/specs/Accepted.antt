-- What the record of an order can hold: each value is in the range that its tag allows. Proved in proofs/AcceptedLaws.
use Rattle.std.specs.Prelude.{ℕ, ◌≤◌, ◌<◌, ◌≡◌, true, Float}
use Rattle.std.specs.Float.Ieee.{neg}
use Rattle.integers.specs.Parts.{Between, Near}
use Rattle.float64.specs.Ops.{dec}
use Rattle.float64.specs.Ranges.{Inside}
use Rattle.calendar.specs.declared.dates.Date.{Date}
use Rattle.calendar.specs.Gregorian.{exists_of}
use Rattle.calendar.specs.Answers.{row_date_of}
use Rattle.calendar.specs.Days.{day_number_of}
use Rattle.hijri.specs.Ramadan.{ramadan_start_of}
use Rattle.models.specs.declared.parameters.Parameters.{Parameters}
use Rattle.models.specs.declared.prayer.Prayer.{Prayer}
use Rattle.models.specs.Presets.{preset_of}
use Rattle.models.specs.Settings.{minutes_for}
use Rattle.order.specs.declared.reading.Order.{Order}
use Rattle.map_form.specs.Hundredths.{most_latitude, most_longitude}
use Rattle.order.specs.Ranges.{first_year, last_year, most_rows, most_angle, most_minutes, most_interval, most_clock, most_imsak}
use Rattle.order.specs.Ranges.{rows_of_ramadan}

-- a date of the calendar, from 1900-01-01 to 2199-12-31
pub record DateInOrder (date : Date) : Type 0 where
  pub there : exists_of date ≡ true
  pub from : first_year ≤ date.year
  pub to : date.year ≤ last_year

-- what "tag 20 set" asks of an order: "thirty rows", from "the shifted 1 Ramadan" on
pub record RamadanSheet (order : Order) : Type 0 where
  pub rows : order.rows ≡ rows_of_ramadan
  pub start : ramadan_start_of (day_number_of order.date) order.ramadan.shift ≡ true

-- each value is the order's own or the method's; the method's minutes are those of its preset
pub record ParametersInOrder (p : Parameters) : Type 0 where
  pub fajr_angle : Inside (dec 0 0) (dec most_angle 0) p.fajr_angle
  pub isha_angle : Inside (dec 0 0) (dec most_angle 0) p.isha_angle
  pub isha_interval : Between 0 most_interval p.isha_interval
  pub own : (prayer : Prayer) → Near most_minutes (minutes_for prayer p.adjustments)
  pub preset : p.method_adjustments ≡ (preset_of p.method).method_adjustments

abbrev pub LatitudeInOrder : Float → Type 0
LatitudeInOrder latitude = Inside (neg (dec most_latitude 0)) (dec most_latitude 0) latitude

pub record Accepted (order : Order) : Type 0 where
  pub date : DateInOrder order.date
  pub rows : (1 ≤ order.rows) × (order.rows ≤ most_rows)
  -- the date of each row, the first and the last among them
  pub row : (row : ℕ) → row < order.rows → DateInOrder (row_date_of order.date row)
  pub latitude : LatitudeInOrder order.setting.coordinates.latitude
  pub longitude : Inside (neg (dec most_longitude 0)) (dec most_longitude 0) order.setting.coordinates.longitude
  pub parameters : ParametersInOrder order.setting.parameters
  pub clock : Near most_clock order.clock
  -- 0 and 0 if the sheet is not Ramadan's
  pub imsak : order.ramadan.imsak ≤ most_imsak
  pub shift : Near 1 order.ramadan.shift
  pub ramadan : order.ramadan.set ≡ true → RamadanSheet order
