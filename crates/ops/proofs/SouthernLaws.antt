-- The southern count that starts again at the solstice, over the days of every year; and how far either count goes. Assumes nothing.
use Rattle.prelude.proofs.Logic.{◌≡◌, refl, sym, ap, ◌∙◌, Bool, true, false, cond, ℕ, ◌+◌, ◌-◌, ◌≤◌, ◌<◌, arith, leb, lit≤, leb-true}
use Rattle.prelude.proofs.Logic.{leb-false, le-leb}
use Rattle.float64.proofs.Floats.{Float, le, dec}
use Rattle.calendar.proofs.Calendar.{leap_of, days_in_year_of}
use Rattle.models.specs.declared.rules.Southern.{Southern}
use Rattle.models.specs.declared.rules.Southern.TheVariants.{Unreduced, StartsAgain}
use Rattle.ops.specs.Season.{southern_offset_of, days_since_solstice_of, southern_count_of, days_by_rule}
use Rattle.ops.specs.Southern.{DayOfYear, SouthernCount}
use Rattle.ops.proofs.SeasonSizes.{days_most}

-- ---- a year of d days whose solstice is on day o: in every year 193 days follow it
abbrev count_of : ℕ → ℕ → ℕ → ℕ
count_of o d day = cond (leb o day) (day - o) (day + d - o)

module _ (o d : ℕ) (gap : d ≡ o + 193) (k : 1 ≤ o) where
  within : (day : ℕ) → day ≤ d → count_of o d day < d
  within day h = go (leb o day) refl
    where
      go : (b : Bool) → leb o day ≡ b → cond b (day - o) (day + d - o) < d
      go true e = let l = leb-true o day e in omega arith
      go false e = let l = leb-false o day e in omega arith

  starts : count_of o d o ≡ 0
  starts = simp (le-leb o o (omega arith)) (omega arith)

  starts-once : (day : ℕ) → count_of o d day ≡ 0 → day ≡ o
  starts-once day = go (leb o day) refl
    where
      go : (b : Bool) → leb o day ≡ b → cond b (day - o) (day + d - o) ≡ 0 → day ≡ o
      go true e z = let l = leb-true o day e in omega arith
      go false e z = absurd (omega arith)

  rises : (day : ℕ) → (day + 1 ≡ o → ⊥) → count_of o d (day + 1) ≡ count_of o d day + 1
  rises day n = go (leb o (day + 1)) (leb o day) refl refl
    where
      go : (a b : Bool) → leb o (day + 1) ≡ a → leb o day ≡ b → cond a (day + 1 - o) (day + 1 + d - o) ≡ cond b (day - o) (day + d - o) + 1
      go true true e f = let l = leb-true o day f in omega arith
      go true false e f = let l = leb-true o (day + 1) e in let m = leb-false o day f in absurd (n (omega arith))
      go false true e f = let l = leb-false o (day + 1) e in let m = leb-true o day f in absurd (omega arith)
      go false false e f = omega arith

  first : 2 ≤ o → count_of o d 1 ≡ 194
  first h = go (leb o 1) refl
    where
      go : (b : Bool) → leb o 1 ≡ b → cond b (1 - o) (1 + d - o) ≡ 194
      go true e = let l = leb-true o 1 e in absurd (omega arith)
      go false e = omega arith

  last : count_of o d d ≡ 193
  last = simp (le-leb o d (omega arith)) (omega arith)

-- ---- every year
module _ (year : ℕ) where
  pub year-gap : days_in_year_of year ≡ southern_offset_of year + 193
  unfolding days_in_year_of southern_offset_of
  year-gap = go (leap_of year)
    where
      go : (b : Bool) → cond b 366 365 ≡ cond b 173 172 + 193
      go true = refl
      go false = refl

  late : 2 ≤ southern_offset_of year
  unfolding southern_offset_of
  late = go (leap_of year)
    where
      go : (b : Bool) → 2 ≤ cond b 173 172
      go true = lit≤ tt
      go false = lit≤ tt

  pub long : days_in_year_of year ≤ 366
  unfolding days_in_year_of
  long = go (leap_of year)
    where
      go : (b : Bool) → cond b 366 365 ≤ 366
      go true = lit≤ tt
      go false = lit≤ tt

pub southern_count : SouthernCount
unfolding southern_count_of
southern_count year =
    let o = southern_offset_of year in
    let d = days_in_year_of year in
    let g = year-gap year in
    let l = late year in
    let k : 1 ≤ o = omega arith in
    record {
      within = λ (day : ℕ) (h : DayOfYear day year). within o d g k day h.1;
      starts = starts o d g k;
      starts_once = λ (day : ℕ) (h : DayOfYear day year) (e : count_of o d day ≡ 0). starts-once o d g k day e;
      rises = λ (day : ℕ) (h : DayOfYear day year) (j : DayOfYear (day + 1) year) (n : day + 1 ≡ o → ⊥). rises o d g k day n;
      goes_on = first (southern_offset_of (year + 1)) (days_in_year_of (year + 1)) (year-gap (year + 1))
          (let m = late (year + 1) in omega arith) (late (year + 1)) ∙ sym (ap (λ (n : ℕ). n + 1) (last o d g k));
    }

-- ---- neither count goes further than the source's in the south
southern_most : (day year : ℕ) → day ≤ 366 → southern_count_of day year ≤ 559
unfolding southern_count_of
southern_most day year h = go (leb (southern_offset_of year) day)
  where
    go : (b : Bool) → cond b (day - southern_offset_of year) (day + days_in_year_of year - southern_offset_of year) ≤ 559
    go true = omega arith
    go false = let g = year-gap year in omega arith

pub season_days_most : (rule : Southern) (day year : ℕ) (latitude : Float) → day ≤ 366 → days_by_rule rule latitude day year ≤ 559
unfolding days_by_rule
season_days_most Unreduced day year latitude h = days_most day year latitude h
season_days_most StartsAgain day year latitude h = go (le (dec 0 0) latitude)
  where
    go : (b : Bool) → cond b (days_since_solstice_of day year latitude) (southern_count_of day year) ≤ 559
    go true = days_most day year latitude h
    go false = southern_most day year h
