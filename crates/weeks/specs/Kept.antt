-- This file need not be believed: how the minutes of the rows are kept, in a list.
use Rattle.std.specs.Prelude.{ℕ, List, ℤ, get_or, None, Option, Some}
use Rattle.integers.specs.Quotients.{floor_quot}

-- a row's minute from its Fajr by itself
unfoldable pub minute_from : Option ℤ → Option ℤ
minute_from (Some seconds) = Some (floor_quot seconds 60)
minute_from None = None

-- a row's minute, from the rows' minutes
abbrev pub minute_in_list : List (Option ℤ) → ℕ → Option ℤ
minute_in_list minutes row = get_or minutes row None
