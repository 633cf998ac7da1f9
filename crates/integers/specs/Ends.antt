-- The ends of the integers that 32 and 64 bits hold: -2 ^ 31 and 2 ^ 31 - 1, -2 ^ 63 and 2 ^ 63 - 1.
use Rattle.std.specs.Prelude.{ℤ, pos, negsuc}

abbrev pub least32 : ℤ
least32 = negsuc 2147483647

abbrev pub most32 : ℤ
most32 = pos 2147483647

abbrev pub least64 : ℤ
least64 = negsuc 9223372036854775807

abbrev pub most64 : ℤ
most64 = pos 9223372036854775807
