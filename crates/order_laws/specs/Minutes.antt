-- Demand 3, whole, for what the calls return on the bytes of any two orders, any row and any two instants that 10 does not refuse:
-- "If two accepted orders differ only in schools' own minutes, and the second's sum (own plus method's) for each of the six prayers is at
-- least the first's, then the same days are refused, with the same number and place. On every other day none of the second's nine times is
-- earlier than the first's; each of its six daily times is later by exactly the difference of the two sums for it, and tomorrow's Fajr by
-- exactly Fajr's difference; and for any instants t and u, u not after t, the prayer in force at u under the second stands no later in the
-- list of eight than at t under the first ("none" standing before Fajr)."
-- Proved in proofs/MinutesLaws.
use Rattle.std.specs.Prelude.{◌≡◌, true, List, ℕ, ◌≤◌, ◌+ℤ◌, Err, Ok, Option}
use Rattle.std.specs.Int.Signed.{le_z}
use Rattle.fields.specs.declared.values.Part.{Part}
use Rattle.models.specs.Chosen.{setting_of}
use Rattle.models.specs.declared.adjustments.TimeAdjustment.{TimeAdjustment}
use Rattle.models.specs.declared.prayer.Prayer.{Prayer}
use Rattle.models.specs.declared.prayer.Prayer.TheVariants.{Fajr}
use Rattle.lines.specs.Lines.{imsak_of}
use Rattle.refusals.specs.declared.Refusal.{Refusal}
use Rattle.models.specs.Settings.{time_adjustments_of}
use Rattle.order.specs.declared.reading.Order.{Order}
use Rattle.order.specs.Reading.{reading_of, town_of}
use Rattle.schedule.specs.declared.in_force.Instant.{Instant}
use Rattle.schedule.specs.declared.prayer_times.PrayerTimes.{PrayerTimes}
use Rattle.schedule.specs.InForce.{NotAfter, current_number_of}
use Rattle.schedule_laws.specs.Later.{with_minutes, later_by, Moved}
use Rattle.days.specs.Calls.{work_day_of, instant_fits, prayer_at_of}

-- an order with other own minutes (tag 11), and with its town elsewhere in its bytes; all else is as it was
abbrev pub with_own_minutes : Order → Part → TimeAdjustment → Order
with_own_minutes order town minutes =
    record {
      town = town;
      date = order.date;
      rows = order.rows;
      setting = setting_of order.setting.coordinates (with_minutes order.setting.parameters minutes) order.setting.rules;
      clock = order.clock;
      ramadan = order.ramadan;
    }

-- "accepted when its bytes pass every check before the day"; "differ only in schools' own minutes when all that the tags other than 11
-- give, a missing one as in the table, is the same; tag 11 may be equal too": the same town, at any offset, and record but for own minutes
pub record LaterOrder (a b : List ℕ) : Type 0 where
  pub first : Order
  pub second : Order
  pub first_read : reading_of a ≡ Ok first
  pub second_read : reading_of b ≡ Ok second
  pub town : town_of a ≡ town_of b
  pub alike : with_own_minutes first second.town second.setting.parameters.adjustments ≡ second
  -- "the six prayers are tag 11's"; Qiyam and tomorrow's Fajr have no minutes, so their sums are equal
  pub more : (prayer : Prayer)
      → le_z (time_adjustments_of first.setting.parameters prayer) (time_adjustments_of second.setting.parameters prayer) ≡ true

-- the two imsaks, as the sheets have them
pub record ImsakMoved (first second : Order) (t u : PrayerTimes) : Type 0 where
  pub same : second.ramadan ≡ first.ramadan
  pub not_earlier : le_z (imsak_of first.ramadan.imsak t.fajr) (imsak_of second.ramadan.imsak u.fajr) ≡ true
  pub exactly : imsak_of second.ramadan.imsak u.fajr
      ≡ imsak_of first.ramadan.imsak t.fajr +ℤ later_by first.setting.parameters second.setting.parameters Fajr

pub record MovedRow (a b : List ℕ) (orders : LaterOrder a b) (row : ℕ) : Type 0 where
  -- working the row: refused alike, none earlier, six times and tomorrow's Fajr later by exactly the difference (schedule_laws, Later)
  pub day : Moved orders.first.setting.parameters orders.second.setting.parameters (work_day_of a row) (work_day_of b row)
  -- request 12: "Raising Fajr's minutes moves imsak by as much": imsak is no earlier, and later by exactly Fajr's difference
  pub imsak : (t u : PrayerTimes) → work_day_of a row ≡ Ok t → work_day_of b row ≡ Ok u → ImsakMoved orders.first orders.second t u
  -- what naming the prayer returns, at t for the first and at u for the second
  pub in_force : (t u : Instant) → instant_fits t ≡ true → instant_fits u ≡ true → NotAfter u t → (x y : Option Prayer)
      → prayer_at_of a row t ≡ Ok x → prayer_at_of b row u ≡ Ok y → current_number_of y ≤ current_number_of x
  -- and both are refused alike
  pub in_force_refused : (t u : Instant) → instant_fits t ≡ true → instant_fits u ≡ true → (r : Refusal)
      → prayer_at_of a row t ≡ Err r → prayer_at_of b row u ≡ Err r
  pub in_force_refused_too : (t u : Instant) → instant_fits t ≡ true → instant_fits u ≡ true → (r : Refusal)
      → prayer_at_of b row u ≡ Err r → prayer_at_of a row t ≡ Err r

abbrev pub LaterOrdersMoveTheirRows : Type 0
LaterOrdersMoveTheirRows = (a b : List ℕ) (orders : LaterOrder a b) (row : ℕ) → MovedRow a b orders row
