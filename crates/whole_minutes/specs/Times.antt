-- unit.rs's `rounded_minute` and `adjust_time`. "Instants are signed seconds from 1970-01-01 0h UTC" (document 01, as below).
use Rattle.std.specs.Prelude.{ℕ, cond, ℤ, pos, ◌+ℤ◌, ◌-ℤ◌, ◌*ℤ◌, ltb}
use Rattle.std.specs.Int.Signed.{lt_z}
use Rattle.integers.specs.Ends.{least64, most64}
use Rattle.integers.specs.Quotients.{floor_rem}
use Rattle.models.specs.declared.rounding.Rounding.{Rounding}
use Rattle.models.specs.declared.rounding.Rounding.TheVariants.{Nearest, Up, None}

-- z, or the nearest end if 64 bits do not hold z
unfoldable pub sat_of : ℤ → ℤ
sat_of z = cond (lt_z most64 z) most64 (cond (lt_z z least64) least64 z)

-- "The second is 0 to 59, also before 1970"
abbrev pub second_of : ℤ → ℕ
second_of t = floor_rem t 60

-- what rounding adds at second s: "Nearest moves up from second 30; Up adds 60 less the seconds, so a full minute at second 0"
unfoldable pub shift_of : Rounding → ℕ → ℤ
shift_of Nearest s = cond (ltb s 30) (pos 0 -ℤ pos s) (pos 60 -ℤ pos s)
shift_of Up s = pos 60 -ℤ pos s
shift_of None s = pos 0

unfoldable pub rounded_of : Rounding → ℤ → ℤ
rounded_of rounding t = t +ℤ shift_of rounding (second_of t)

unfoldable pub adjusted_of : ℤ → ℤ → ℤ
adjusted_of t minutes = t +ℤ minutes *ℤ pos 60
