-- This file need not be believed: how long the texts and the names may be.
use Rattle.std.specs.Prelude.{ℕ}

-- the longest text and the longest name: with a blank and ten digits they are a hundred bytes
abbrev pub widest : ℕ
widest = 64

abbrev pub widest_name : ℕ
widest_name = 25
