-- "A float is read from its eight bytes, high byte first. Integers likewise; minutes are signed 16-bit." A byte past the end counts as 0.
use Rattle.std.specs.Prelude.{ℕ, zero, suc, ◌+◌, ◌*◌, cond, List, ltb, Float, ℤ, pos, ◌-ℤ◌, get_or}
use Rattle.std.specs.Float.{binary64}
use Rattle.std.specs.Float.Ieee.{of_bits}

abbrev pub byte_of : List ℕ → ℕ → ℕ
byte_of v at = get_or v at 0

-- the two bytes from an offset on
unfoldable pub unsigned_of : List ℕ → ℕ → ℕ
unsigned_of v at = byte_of v at * 256 + byte_of v (at + 1)

-- sixteen bits as a signed number: from 32768 on it is below zero
abbrev pub with_sign : ℕ → ℤ
with_sign x = cond (ltb x 32768) (pos x) (pos x -ℤ pos 65536)

unfoldable pub signed_at_of : List ℕ → ℕ → ℤ
signed_at_of v at = with_sign (unsigned_of v at)

-- the number that the first n bytes write
unfoldable pub bytes_number_of : ℕ → List ℕ → ℕ
bytes_number_of zero v = 0
bytes_number_of (suc k) v = bytes_number_of k v * 256 + byte_of v k

unfoldable pub bits_of : List ℕ → ℕ
bits_of v = bytes_number_of 8 v

-- the float with that bit pattern
unfoldable pub float_of : List ℕ → Float
float_of v = of_bits binary64 (bits_of v)
