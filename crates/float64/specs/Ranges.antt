-- A closed range of floats, as a test and as a fact. No comparison with a NaN holds, so no range has a NaN.
use Rattle.std.specs.Prelude.{◌≡◌, Bool, true, ◌&&◌, Float}
use Rattle.std.specs.Float.Ieee.{le}

abbrev pub inside_of : Float → Float → Float → Bool
inside_of low high x = le low x && le x high

abbrev pub Inside : Float → Float → Float → Type 0
Inside low high x = (le low x ≡ true) × (le x high ≡ true)
