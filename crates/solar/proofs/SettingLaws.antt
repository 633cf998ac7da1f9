-- The range of the times of `setting_hour`: from 0h of yesterday to 24h of tomorrow, if the hour number has a time. Assumes nothing.
use Rattle.std.specs.Prelude.{None, Option, Some}
use Rattle.prelude.proofs.Logic.{◌≡◌, refl, Bool, true, false, cond, ℕ, ◌+◌, ◌*◌, ◌≤◌, ◌<◌, arith, ltb, lit≤, ℤ, pos, ◌-ℤ◌, ltb-true}
use Rattle.float64.proofs.Floats.{Float, lt, dec, is_normal_of, floor_of}
use Rattle.integers.proofs.Integers.{Between, difference, by_balance}
use Rattle.solar.specs.declared.{setting.Placed.Placed}
use Rattle.solar.specs.Setting.{hour_adjustment_of, minute_of, day_second_of, sum_of, rest_of, hour_of, setting_hour_of}

-- the earliest time of the sun, in seconds before 0h of its date, and the latest. Only a number that is carried past midnight has the
-- latest
abbrev pub earliest_sun : ℕ
earliest_sun = 86400

abbrev pub latest_sun : ℕ
latest_sun = 172800

abbrev pub OfThreeDays : ℤ → Type 0
OfThreeDays t = Between earliest_sun latest_sun t

-- an hour's time, if it has one
abbrev pub HourOfThreeDays : Option ℤ → Type 0
HourOfThreeDays (Some t) = OfThreeDays t
HourOfThreeDays None = 0 ≤ 0

-- n seconds from 0h of yesterday
pub counted : (n : ℕ) → n ≤ earliest_sun + latest_sun → OfThreeDays (pos n -ℤ pos 86400)
counted n h = let d = difference (pos n) (pos 86400) in
    by_balance earliest_sun latest_sun (pos n -ℤ pos 86400) (omega (arith, d.0, d.1)) (omega (arith, d.0, d.1))

where_so : (b : Bool) (t : ℤ) → (b ≡ true → OfThreeDays t) → HourOfThreeDays (cond b (Some t) None)
where_so true t h = h refl
where_so false t h = lit≤ tt

pub rest_held : (minute : ℕ) → rest_of minute < 60
rest_held minute = by-test (ltb minute 60) refl
  where
    by-test : (b : Bool) → ltb minute 60 ≡ b → cond b minute 0 < 60
    by-test true e = ltb-true minute 60 e
    by-test false e = omega arith

hour_held : (p : Placed) (minute : ℕ) → p.ahead ≤ 2 → HourOfThreeDays (hour_of p minute)
unfolding hour_of
hour_held p minute h =
    let hour = sum_of p.hour minute in
    where_so (ltb hour 24) (day_second_of p.ahead hour (rest_of minute))
    (λ k. counted (p.ahead * 86400 + hour * 3600 + rest_of minute * 60) (omega (arith, ltb-true hour 24 k, rest_held minute)))

pub ahead_held : (hours : Float) → (hour_adjustment_of hours).ahead ≤ 2
unfolding hour_adjustment_of
ahead_held hours = by_tests (lt hours (dec 0 0)) (lt hours (dec 24 0)) _ _ _
  where
    by_tests : (a b : Bool) (x y z : ℕ) → (cond {A = Placed} a (record { ahead = 0; hour = x })
        (cond b (record { ahead = 1; hour = y }) (record { ahead = 2; hour = z }))).ahead ≤ 2
    by_tests true b x y z = lit≤ tt
    by_tests false true x y z = lit≤ tt
    by_tests false false x y z = lit≤ tt

pub setting_held : (value : Float) → HourOfThreeDays (setting_hour_of value)
unfolding setting_hour_of
setting_held value = by-test (is_normal_of value)
  where
    by-test : (b : Bool) → HourOfThreeDays (cond b (hour_of (hour_adjustment_of (floor_of value)) (minute_of value (floor_of value))) None)
    by-test true = hour_held (hour_adjustment_of (floor_of value)) (minute_of value (floor_of value)) (ahead_held (floor_of value))
    by-test false = lit≤ tt
