-- The answer that specs/Owed asks of the writer, computed.
use Rattle.std.specs.Prelude.{ℕ, suc, ◌+◌, ◌*◌, ◌/◌, ◌%◌, cond, ℤ, pos, negsuc, Float}
use Rattle.std.specs.Float.{nan, inf, fin}
use Rattle.std.specs.Float.Ieee.{up, down}
use Rattle.float64.specs.Words.{is_negative_of}
use Rattle.refusals.specs.Refusals.{refusal, no_refusal, out_of_range}
use Rattle.map_form.specs.declared.MapForm.{MapForm}
use Rattle.map_form.specs.declared.writing.Written.{Written}
use Rattle.map_form.specs.Hundredths.{in_degree, signed, at_most}
use Rattle.map_form.specs.Owed.{no_parts}

abbrev pub map_latitude_tag : ℕ
map_latitude_tag = 18

abbrev pub map_longitude_tag : ℕ
map_longitude_tag = 19

-- n hundredths as degrees, minutes, seconds and hundredths
abbrev pub parts_of : ℕ → ℕ → MapForm
parts_of sign n = record {
  sign = sign;
  degrees = n / in_degree;
  minutes = n / 6000 % 60;
  seconds = n / 100 % 60;
  hundredths = n % 100;
}

-- a count below zero is south or west
abbrev pub form_of : ℤ → MapForm
form_of (pos n) = parts_of 0 n
form_of (negsuc n) = parts_of 1 (suc n)

-- the whole part of a / d + 1 / 2
abbrev pub nearest_to : ℕ → ℕ → ℕ
nearest_to a d = (2 * a + d) / (2 * d)

-- the hundredths nearest to the size of x's exact value
unfoldable pub hundredths_of : Float → ℕ
hundredths_of nan = 0
hundredths_of (inf s) = 0
hundredths_of (fin s m e) = nearest_to (m * up e * in_degree) (down e)

-- the count nearest to x, with x's sign
abbrev pub nearest_count : Float → ℤ
nearest_count x = signed (is_negative_of x) (hundredths_of x)

unfoldable pub written_of : (tag most : ℕ) → Float → Written
written_of tag most x =
    cond (at_most most x)
    (record { refusal = no_refusal; form = form_of (nearest_count x) })
    (record { refusal = refusal out_of_range tag; form = no_parts })
