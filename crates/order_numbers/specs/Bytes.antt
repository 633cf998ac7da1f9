-- Document 01, "The order": "A float is read from its eight bytes, high byte first. Integers likewise; minutes are signed 16-bit." A number
-- that the bytes can't hold is written as one that is out of range for every tag with these bytes. The reader refuses it: no number becomes
-- another.
use Rattle.std.specs.Prelude.{ℕ, ◌+◌, ◌-◌, ◌/◌, ◌%◌, cond, List, [], ◌∷◌, ◌++◌, leb, ltb, eqb, Float, ℤ, length}
use Rattle.std.specs.Float.{binary64}
use Rattle.std.specs.Float.Ieee.{to_bits}
use Rattle.integers.specs.Parts.{P, N}

-- an unsigned number in one byte and in two; `most` if it is above that
unfoldable pub up_to : (most n : ℕ) → ℕ
up_to most n = cond (leb n most) n most

abbrev pub byte_for : ℕ → ℕ
byte_for n = up_to 255 n

abbrev pub word_for : ℕ → ℕ
word_for n = up_to 65535 n

unfoldable pub two_bytes : ℕ → List ℕ
two_bytes n = n / 256 ∷ n % 256 ∷ []

-- a signed number in sixteen bits, from how far it is above and below zero, modulo 65,536
unfoldable pub sixteen_for : (above below : ℕ) → ℕ
sixteen_for above below = cond (ltb 32768 below) 32767 (cond (ltb 32767 above) 32767 ((above + (65536 - below)) % 65536))

abbrev pub signed_bytes : ℤ → List ℕ
signed_bytes z = two_bytes (sixteen_for (P z) (N z))

-- a shift of -1, 0 or 1, "stored plus 1"
unfoldable pub shift_for : (above below : ℕ) → ℕ
shift_for above below = cond (ltb 1 below) 255 (cond (ltb 1 above) 255 (above + 1 - below))

abbrev pub shift_byte : ℤ → ℕ
shift_byte z = shift_for (P z) (N z)

-- the eight bytes of a bit pattern
unfoldable pub eight_bytes : ℕ → List ℕ
eight_bytes n =
    let b = n / 256 in
    let c = b / 256 in
    let d = c / 256 in
    let e = d / 256 in
    let f = e / 256 in
    let g = f / 256 in
    let h = g / 256 in
    h % 256 ∷ g % 256 ∷ f % 256 ∷ e % 256 ∷ d % 256 ∷ c % 256 ∷ b % 256 ∷ n % 256 ∷ []

-- -0.0 would be read as 0.0, so it is written as a NaN, which is out of range
abbrev pub minus_zero : ℕ
minus_zero = 0x8000_0000_0000_0000

abbrev pub not_a_number : ℕ
not_a_number = 0x7ff8_0000_0000_0000

unfoldable pub float_bytes : Float → List ℕ
float_bytes x = eight_bytes (cond (eqb (to_bits binary64 x) minus_zero) not_a_number (to_bits binary64 x))

-- "Fields: one-byte tag, two-byte length (high byte first), value."
unfoldable pub field_bytes : ℕ → List ℕ → List ℕ
field_bytes tag v = tag ∷ length v / 256 ∷ length v % 256 ∷ v

-- fields, one behind the other
unfoldable pub joined : List (ℕ × List ℕ) → List ℕ
joined [] = []
joined (field ∷ rest) = field_bytes field.0 field.1 ++ joined rest
