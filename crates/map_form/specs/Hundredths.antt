-- Request 7: "five bytes, sign (0 or 1, 1 is south or west) and those four, the last three at most 59, 59 and 99. The f64 is the signed
-- count of hundredths divided by 360,000, rounded once." A coordinate as on the map, as a count of hundredths and as an f64.
use Rattle.std.specs.Prelude.{ℕ, suc, ◌+◌, ◌*◌, Bool, true, false, cond, ◌&&◌, leb, eqb, Float, ℤ, pos, negsuc, neg_ℤ}
use Rattle.std.specs.Float.{nan, inf, fin, binary64}
use Rattle.std.specs.Float.Ieee.{up, down, round}
use Rattle.map_form.specs.declared.MapForm.{MapForm}

-- the hundredths of a second in a degree: 60 minutes of 60 seconds of 100 hundredths
abbrev pub in_degree : ℕ
in_degree = 360000

-- "outside 90 or 180 degrees"
abbrev pub most_latitude : ℕ
most_latitude = 90

abbrev pub most_longitude : ℕ
most_longitude = 180

-- ---- reading: the hundredths of the four parts
abbrev pub size_of : MapForm → ℕ
size_of f = ((f.degrees * 60 + f.minutes) * 60 + f.seconds) * 100 + f.hundredths

-- n, or -n if `s`; a zero has no sign
abbrev pub signed : Bool → ℕ → ℤ
signed s n = cond s (neg_ℤ (pos n)) (pos n)

abbrev pub signed_hundredths_of : MapForm → ℤ
signed_hundredths_of f = signed (eqb f.sign 1) (size_of f)

-- z / 360,000, rounded once; 0 is 0.0
unfoldable pub degrees_of : ℤ → Float
unfolding round
degrees_of (pos n) = round binary64 false n in_degree
degrees_of (negsuc n) = round binary64 true (suc n) in_degree

-- "A part outside its limit, or a coordinate outside 90 or 180 degrees, is refused": true if it is not refused
unfoldable pub form_fits : ℕ → MapForm → Bool
form_fits most f =
    leb f.sign 1 && leb f.minutes 59 && leb f.seconds 59 && leb f.hundredths 99 && leb (size_of f) (most * in_degree)

-- ---- writing: `fin s m e` is m * 2 ^ e, which is m * up e / down e, in size
-- finite, and at most n in size
unfoldable pub at_most : ℕ → Float → Bool
at_most n nan = false
at_most n (inf s) = false
at_most n (fin s m e) = leb (m * up e) (n * down e)
