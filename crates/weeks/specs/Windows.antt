-- Document 02, request 11: "The answers are those of looking through each window afresh." Rows are given by their minutes, `f`.
use Rattle.std.specs.Prelude.{ℕ, zero, suc, ◌+◌, cond, ℤ, None, Option, Some}
use Rattle.std.specs.Int.Signed.{lt_z}
use Rattle.weeks.specs.declared.window.Extremes.{Extremes}

abbrev pub extremes : ℤ → ℕ → ℤ → ℕ → Extremes
extremes early earlyRow late lateRow = record { earliest = early; earliest_row = earlyRow; latest = late; latest_row = lateRow }

-- a window's first row by itself
abbrev pub begin_of : ℕ → Option ℤ → Option Extremes
begin_of row None = None
begin_of row (Some m) = Some (extremes m row m row)

-- "the earliest and latest Fajr .., and the first row having each": so an equal minute changes nothing
unfoldable pub earlier_in : Extremes → ℕ → ℤ → Extremes
earlier_in x row m = cond (lt_z m x.earliest) (extremes m row x.latest x.latest_row) x

unfoldable pub later_in : Extremes → ℕ → ℤ → Extremes
later_in x row m = cond (lt_z x.latest m) (extremes x.earliest x.earliest_row m row) x

-- one row more: "a window with a refused day" is refused
abbrev pub seen_of : Option Extremes → ℕ → Option ℤ → Option Extremes
seen_of None row minute = None
seen_of (Some x) row None = None
seen_of (Some x) row (Some m) = Some (later_in (earlier_in x row m) row m)

-- k rows more, from `row` on
abbrev pub look_of : (ℕ → Option ℤ) → Option Extremes → ℕ → ℕ → Option Extremes
look_of f w row zero = w
look_of f w row (suc k) = look_of f (seen_of w row (f row)) (row + 1) k

-- "every run of seven successive rows", from `first` on
unfoldable pub window_of : (ℕ → Option ℤ) → ℕ → Option Extremes
window_of f first = look_of f (begin_of first (f first)) (first + 1) 6
