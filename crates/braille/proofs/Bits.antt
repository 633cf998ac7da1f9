-- The set bits of a cell are its raised dots, and a row's cells have no other bits. Assumes nothing.
use Rattle.std.specs.Prelude.{Err, Ok, Result}
use Rattle.schedule.specs.declared.prayer_times.PrayerTimes.{PrayerTimes}
use Rattle.refusals.specs.declared.Refusal.{Refusal}
use Rattle.prelude.proofs.Logic.{◌≡◌, ap, ◌∙◌, List, [], ◌∷◌, ◌++◌, ℕ, zero, suc, ◌+◌, ◌*◌, ◌/◌, ◌%◌, ◌<◌, ◌≤◌, add-one, arith, ℤ, length}
use Rattle.prelude.proofs.Logic.{get_or, take, replicate}
use lib.Count.{ones, ones_step}
use Rattle.calendar.specs.declared.dates.Date.{Date}
use Rattle.braille.specs.Braille.{digit_cells, digit_cell, dots_in, dots_of, SixDots}
use Rattle.braille.specs.Cells.{day_cells, time_cells, times_cells, clock_minute_of, six_of, refused_cells, row_cells}

-- six sums, one after another
six_sums : (a b c d e f g p q r s t u : ℕ) → a ≡ p + b → b ≡ q + c → c ≡ r + d → d ≡ s + e → e ≡ t + f → f ≡ u + g → g ≡ 0
    → a ≡ p + q + r + s + t + u
six_sums a b c d e f g p q r s t u i j k l m n o = omega arith

pub ones_dots : (c : ℕ) → c < 64 → ones c ≡ dots_in c
unfolding dots_in ones
ones_dots c h =
    six_sums (ones c) (ones (c / 2)) (ones (c / 4)) (ones (c / 8)) (ones (c / 16)) (ones (c / 32)) (ones (c / 64)) (c / 1 % 2) _ _ _ _ _
    (ones_step c ∙ ap (λ (x : ℕ). x + ones (c / 2)) (at_one c))
    (step (c / 2) (c / 4) (omega arith))
    (step (c / 4) (c / 8) (omega arith))
    (step (c / 8) (c / 16) (omega arith))
    (step (c / 16) (c / 32) (omega arith))
    (step (c / 32) (c / 64) (omega arith))
    (ap ones (none c h))
  where
    step : (x y : ℕ) → x / 2 ≡ y → ones x ≡ x % 2 + ones y
    step x y e = ones_step x ∙ ap (λ (z : ℕ). x % 2 + ones z) e

    at_one : (c : ℕ) → c % 2 ≡ c / 1 % 2
    at_one c = omega arith

    none : (c : ℕ) → c < 64 → c / 64 ≡ 0
    none c h = omega arith

pub dots_most : (c : ℕ) → dots_in c ≤ 6
unfolding dots_in
dots_most c = omega arith

-- ---- the dots of the cells before an index
dots_suc : (cells : List ℕ) (i : ℕ) → i < length cells → dots_of (take (suc i) cells) ≡ dots_of (take i cells) + dots_in (get_or cells i 0)
unfolding dots_of
dots_suc [] i h = absurd (omega arith)
dots_suc (c ∷ cells) zero h = omega arith
dots_suc (c ∷ cells) (suc i) h = let e = dots_suc cells i (omega arith) in omega arith

pub dots_next : (cells : List ℕ) (i : ℕ) → i < length cells → dots_of (take (i + 1) cells) ≡ dots_of (take i cells) + dots_in (get_or cells i 0)
dots_next cells i h = rw (add-one i) (dots_suc cells i h)

pub dots_bound : (cells : List ℕ) → dots_of cells ≤ 6 * length cells
unfolding dots_of
dots_bound [] = omega arith
dots_bound (c ∷ cells) = let i = dots_bound cells in let d = dots_most c in omega arith

pub six_at : (cells : List ℕ) (i : ℕ) → SixDots cells → get_or cells i 0 < 64
unfolding SixDots
six_at [] i s = omega arith
six_at (c ∷ cells) zero s = s.0
six_at (c ∷ cells) (suc i) s = six_at cells i s.1

-- ---- a row's cells
pub six_append : (xs ys : List ℕ) → SixDots xs → SixDots ys → SixDots (xs ++ ys)
unfolding SixDots
six_append [] ys a b = b
six_append (x ∷ xs) ys a b = (a.0, six_append xs ys a.1 b)

digits_six : SixDots digit_cells
unfolding SixDots
digits_six = omega arith

digit_six : (n : ℕ) → digit_cell n < 64
digit_six n = six_at digit_cells (n % 10) digits_six

blanks_six : (n : ℕ) → SixDots (replicate n 0)
unfolding SixDots
blanks_six zero = tt
blanks_six (suc n) = (omega arith, blanks_six n)

day_six : (date : Date) → SixDots (day_cells date)
unfolding SixDots day_cells
day_six date = (omega arith, (digit_six (date.day / 10), (digit_six date.day, tt)))

time_six : (clock time : ℤ) → SixDots (time_cells clock time)
unfolding SixDots time_cells
time_six clock time =
    let minute = clock_minute_of clock time in (
      omega arith,
      (
        omega arith,
        (digit_six (minute / 60 / 10), (digit_six (minute / 60), (digit_six (minute % 60 / 10), (digit_six (minute % 60), tt)))),
      ),
    )

times_six : (clock : ℤ) (times : List ℤ) → SixDots (times_cells clock times)
unfolding SixDots times_cells
times_six clock [] = tt
times_six clock (time ∷ times) = six_append (time_cells clock time) (times_cells clock times) (time_six clock time) (times_six clock times)

pub row_six : (date : Date) (worked : Result PrayerTimes Refusal) (clock : ℤ) → SixDots (row_cells date worked clock)
unfolding row_cells refused_cells
row_six date (Ok t) clock = six_append (day_cells date) (times_cells clock (six_of t)) (day_six date) (times_six clock (six_of t))
row_six date (Err r) clock = six_append (day_cells date) (replicate 36 0) (day_six date) (blanks_six 36)
