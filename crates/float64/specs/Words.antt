-- The two words of a float's bit pattern, which fdlibm reads and writes as __HI(x) and __LO(x).
-- A NaN has many patterns. These are the words of the one that the model writes: 0x7ff8_0000 and 0.
use Rattle.std.specs.Prelude.{ℕ, ◌*◌, ◌/◌, ◌%◌, ◌^◌, Bool, false, to_bits, Float}
use Rattle.std.specs.Float.{nan, inf, fin, binary64}
use Rattle.float64.specs.Ops.{bits}

-- the sign bit; false for a NaN
unfoldable pub is_negative_of : Float → Bool
is_negative_of nan = false
is_negative_of (inf s) = s
is_negative_of (fin s m e) = s

-- the high word with the sign cleared: ix = __HI(x) & 0x7fffffff
unfoldable pub high_of : Float → ℕ
high_of x = to_bits binary64 x % 2 ^ 63 / 2 ^ 32

-- x with its low word cleared: __LO(x) = 0
unfoldable pub low_cleared_of : Float → Float
low_cleared_of x = bits (to_bits binary64 x / 2 ^ 32 * 2 ^ 32)
