-- Short names of binary64's operations: a definition reads like its formula. "each operation rounded once in its order" (document 01).
use Rattle.std.specs.Prelude.{ℕ, ◌^◌, false, from_bits, Float}
use Rattle.std.specs.Float.{binary64}
use Rattle.std.specs.Float.Ieee.{add, sub, mul, div, round}

infixl 60 ◌+ᶠ◌ ◌-ᶠ◌
infixl 70 ◌*ᶠ◌ ◌/ᶠ◌
abbrev pub ◌+ᶠ◌ : Float → Float → Float
x +ᶠ y = add binary64 x y

abbrev pub ◌-ᶠ◌ : Float → Float → Float
x -ᶠ y = sub binary64 x y

abbrev pub ◌*ᶠ◌ : Float → Float → Float
x *ᶠ y = mul binary64 x y

abbrev pub ◌/ᶠ◌ : Float → Float → Float
x /ᶠ y = div binary64 x y

-- a constant by its bit pattern
abbrev pub bits : ℕ → Float
bits n = from_bits binary64 n

-- the f64 nearest to n / 10 ^ k: a decimal literal of the source
unfoldable pub dec : ℕ → ℕ → Float
unfolding round
dec n k = round binary64 false n (10 ^ k)
