-- The carried times: their range, when they are document 01's, and what they are if document 01 has none. Assumes nothing.
use Rattle.std.specs.Prelude.{None, Option, Some}
use Rattle.std.specs.Option.{option_or}
use Rattle.prelude.proofs.Logic.{◌≡◌, refl, ap, ◌∙◌, Bool, true, false, cond, ℕ, ◌+◌, ◌*◌, ◌≤◌, arith, ltb, lit≤, ℤ, pos}
use Rattle.prelude.proofs.Logic.{ltb-true}
use Rattle.float64.proofs.Floats.{Float, is_normal_of, floor_of}
use Rattle.solar.specs.declared.setting.Placed.{Placed}
use Rattle.solar.specs.Setting.{hour_adjustment_of, minute_of, day_second_of, sum_of, rest_of, hour_of, setting_hour_of}
use Rattle.solar.proofs.SettingLaws.{HourOfThreeDays, counted, rest_held, ahead_held}
use Rattle.solar.specs.PastMidnight.{has_time_of, next_midnight_of, carried_of, carried_hour_of}

-- ---- the range
carry_held : (p : Placed) (minute : ℕ) → p.ahead ≤ 2 → HourOfThreeDays (carried_of p minute)
unfolding carried_of
carry_held p minute h = by-test (ltb hour 24) refl
  where
    hour : ℕ
    hour = sum_of p.hour minute

    by-test : (b : Bool) → ltb hour 24 ≡ b
        → HourOfThreeDays (cond b (Some (day_second_of p.ahead hour (rest_of minute))) (next_midnight_of p.ahead))
    by-test true e =
        counted (p.ahead * 86400 + hour * 3600 + rest_of minute * 60) (omega (arith, ltb-true hour 24 e, rest_held minute))
    by-test false e = counted ((p.ahead + 1) * 86400 + 0 * 3600 + 0 * 60) (omega arith)

pub carried_held : (value : Float) → HourOfThreeDays (carried_hour_of value)
unfolding carried_hour_of
carried_held value = by_tests (has_time_of value) (is_normal_of value)
  where
    by_tests : (a b : Bool) → HourOfThreeDays
        (cond a (cond b (carried_of (hour_adjustment_of (floor_of value)) (minute_of value (floor_of value))) (Some (pos 0))) None)
    by_tests true true = carry_held (hour_adjustment_of (floor_of value)) (minute_of value (floor_of value)) (ahead_held (floor_of value))
    by_tests true false = record { from = lit≤ tt; to = lit≤ tt }
    by_tests false b = lit≤ tt

-- ---- compared with document 01's rule
-- from document 01's result to the carried one: a time stays, and no time becomes 0h of the date after the one taken
pub carry_from : (p : Placed) (minute : ℕ) → carried_of p minute ≡ option_or (hour_of p minute) (next_midnight_of p.ahead)
unfolding carried_of hour_of
carry_from p minute = by-test (ltb hour 24)
  where
    hour : ℕ
    hour = sum_of p.hour minute

    time : ℤ
    time = day_second_of p.ahead hour (rest_of minute)

    by-test : (b : Bool) → cond b (Some time) (next_midnight_of p.ahead) ≡ option_or (cond b (Some time) None) (next_midnight_of p.ahead)
    by-test true = refl
    by-test false = refl

-- the date taken: 0 is yesterday, 1 the date, 2 tomorrow
abbrev pub taken_of : Float → ℕ
taken_of value = (hour_adjustment_of (floor_of value)).ahead

-- a normal number from -24 to below 48 has document 01's time, or 0h of the date after the one taken if that rule has none
pub carried_from_lem : (value : Float) → has_time_of value ≡ true → is_normal_of value ≡ true
    → carried_hour_of value ≡ option_or (setting_hour_of value) (next_midnight_of (taken_of value))
unfolding carried_hour_of setting_hour_of
carried_from_lem value h n = rw (h, n) (carry_from (hour_adjustment_of (floor_of value)) (minute_of value (floor_of value)))

no_time_not_normal : (value : Float) → is_normal_of value ≡ false → setting_hour_of value ≡ None
unfolding setting_hour_of
no_time_not_normal value n = rw n

-- if document 01 has a time, and the number is from -24 to below 48, both times are the same
pub carried_agrees : (value : Float) (t : ℤ) → has_time_of value ≡ true → setting_hour_of value ≡ Some t → carried_hour_of value ≡ Some t
carried_agrees value t h e = by-test (is_normal_of value) refl
  where
    by-test : (b : Bool) → is_normal_of value ≡ b → carried_hour_of value ≡ Some t
    by-test true n = carried_from_lem value h n ∙ ap (λ (r : Option ℤ). option_or r (next_midnight_of (taken_of value))) e
    by-test false n = let none = no_time_not_normal value n in cc

-- if document 01 has none for a normal number from -24 to below 48, it is 0h of the date after the one taken
pub carried_past : (value : Float) → has_time_of value ≡ true → is_normal_of value ≡ true → setting_hour_of value ≡ None
    → carried_hour_of value ≡ next_midnight_of (taken_of value)
carried_past value h n e = carried_from_lem value h n ∙ ap (λ (r : Option ℤ). option_or r (next_midnight_of (taken_of value))) e

-- a number from -24 to below 48 that is not normal is 0h of the date; any number outside has no time
pub carried_small : (value : Float) → has_time_of value ≡ true → is_normal_of value ≡ false → carried_hour_of value ≡ Some (pos 0)
unfolding carried_hour_of
carried_small value h n = rw (h, n)

pub carried_none : (value : Float) → has_time_of value ≡ false → carried_hour_of value ≡ None
unfolding carried_hour_of
carried_none value h = rw h
