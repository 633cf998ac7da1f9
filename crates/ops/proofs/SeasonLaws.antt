-- The season's seconds are less than a day, at every latitude and on every day of a year. Over the definitions of `Season`. Assumes
-- nothing.
use Rattle.prelude.proofs.Logic.{◌≡◌, Bool, true, false, ℕ, ◌≤◌, arith, lit<, lit≤, pos}
use Rattle.float64.proofs.Floats.{Float, neg, le, to_signed, ◌*ᶠ◌, dec, round_of, is_negative_of, Within, within_signed, neg_within, mul_within}
use Rattle.float64.proofs.Floats.{within_limits, whole_size, signed, whole_most, cast_is, nearest_within}
use Rattle.integers.proofs.Integers.{P, N, flip}
use Rattle.models.specs.declared.{rules.Season.Season, shafaq.Shafaq.Shafaq}
use Rattle.models.specs.declared.shafaq.Shafaq.TheVariants.{General}
use Rattle.ops.specs.declared.season.AdjustmentDaytime.{AdjustmentDaytime}
use Rattle.ops.specs.declared.season.AdjustmentDaytime.TheVariants.{Morning, Evening}
use Rattle.ops.specs.Season.{season_days_of, twilight_adjustment_values_of, season_minutes_of, morning_seconds_of, evening_seconds_of}
use Rattle.ops.proofs.SeasonSizes.{whole_value, whole_within, values-bounded, minutes_within}
use Rattle.ops.proofs.SouthernLaws.{season_days_most}

-- ---- the seconds: a factor of 60, whichever its sign, and the nearest whole number
module _ (minutes factor : Float) (h : Within minutes 1301 1) (k : Within factor 60 1) where
  rounded : Float
  rounded = round_of (minutes *ᶠ factor)

  rounded-within : Within rounded 78060 1
  unfolding rounded
  rounded-within = nearest_within (minutes *ᶠ factor) 78060 (lit< tt)
      (mul_within minutes factor 1301 60 1 1 78060 0 (lit< tt) (lit< tt) h k (lit< tt) (lit≤ tt) (lit≤ tt))

  cast : to_signed 63 (round_of (minutes *ᶠ factor)) ≡ signed (is_negative_of rounded) (whole_size rounded)
  unfolding rounded
  cast =
      let m = whole_most rounded 78060 1 rounded-within in
      cast_is 63 (is_negative_of rounded) rounded (within_signed rounded 78060 1 rounded-within) 78060 1 rounded-within (omega arith)

  parts : (s : Bool) → (P (signed s (whole_size rounded)) ≤ 86400) × (N (signed s (whole_size rounded)) ≤ 86400)
  parts true = let m = whole_most rounded 78060 1 rounded-within in let f = flip (pos (whole_size rounded)) in (omega arith, omega arith)
  parts false = let m = whole_most rounded 78060 1 rounded-within in (omega arith, lit≤ tt)

  seconds-small : (P (to_signed 63 (round_of (minutes *ᶠ factor))) ≤ 86400) × (N (to_signed 63 (round_of (minutes *ᶠ factor))) ≤ 86400)
  seconds-small = rw cast (parts (is_negative_of rounded))

-- ---- the laws
sixty_within : Within (dec 60 0) 60 1
sixty_within = whole_within 60 60 (lit≤ tt) (lit≤ tt)

minus_sixty_within : Within (neg (dec 60 0)) 60 1
minus_sixty_within = neg_within (dec 60 0) 60 1 sixty_within

module _ (season : Season) (day year : ℕ) (south : le (neg (dec 90 0)) season.latitude ≡ true)
    (north : le season.latitude (dec 90 0) ≡ true) (d : day ≤ 366) where
  all-within : (t : AdjustmentDaytime) (shafaq : Shafaq) → Within (season_minutes_of t season day year shafaq) 1301 1
  all-within t shafaq =
      minutes_within (twilight_adjustment_values_of t season.latitude shafaq)
      (values-bounded season.latitude
      (within_limits season.latitude (dec 90 0) 90 1 (lit< tt) (whole_value 90 (lit≤ tt)) south north) t shafaq)
      (season_days_of season day year)
      (season_days_most season.southern day year season.latitude d)

  -- less than a day either way
  pub morning-small : (P (morning_seconds_of season day year) ≤ 86400) × (N (morning_seconds_of season day year) ≤ 86400)
  unfolding morning_seconds_of
  morning-small =
      seconds-small (season_minutes_of Morning season day year General) (neg (dec 60 0)) (all-within Morning General) minus_sixty_within

  pub evening-small : (shafaq : Shafaq) → (P (evening_seconds_of season day year shafaq) ≤ 86400)
      × (N (evening_seconds_of season day year shafaq) ≤ 86400)
  unfolding evening_seconds_of
  evening-small shafaq = seconds-small (season_minutes_of Evening season day year shafaq) (dec 60 0) (all-within Evening shafaq) sixty_within
