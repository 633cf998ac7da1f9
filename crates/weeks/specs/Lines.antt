-- Document 02, request 11: the report's lines. "prints a line a window: its first row, the earliest, that one's row, the latest, that one's
-- row, in decimal (a minus only below zero), a blank between; a window with a refused day prints its first row, a blank and `refused`".
use Rattle.weeks.specs.declared.window.Extremes.{Extremes}
use Rattle.std.specs.Prelude.{ℕ, zero, suc, ◌-◌, List, [], ◌++◌, ℤ, None, Option, Some}
use Rattle.text.specs.Signed.{signed_of}
use Rattle.text.specs.Text.{ascii, decimal_of}
use Rattle.weeks.specs.Windows.{window_of}

-- a minute and its row, with a blank before each
unfoldable pub pair_text : ℤ → ℕ → List ℕ
pair_text minute row = ascii " " ++ signed_of minute ++ ascii " " ++ decimal_of row

-- `0 -2 0 -1 2`, or `0 refused`
unfoldable pub line_of : ℕ → Option Extremes → List ℕ
line_of first (Some x) = decimal_of first ++ pair_text x.earliest x.earliest_row ++ pair_text x.latest x.latest_row
    ++ ascii "\n"
line_of first None = decimal_of first ++ ascii " refused\n"

-- the lines of the first n windows
unfoldable pub lines_of : (ℕ → Option ℤ) → ℕ → List ℕ
lines_of f zero = []
lines_of f (suc n) = lines_of f n ++ line_of n (window_of f n)

-- a line for every run of seven successive rows; under seven rows there is none
abbrev pub report_of : (ℕ → Option ℤ) → ℕ → List ℕ
report_of f rows = lines_of f (rows - 6)
