-- A number with a sign, in decimal.
use Rattle.std.specs.Prelude.{ℕ, suc, List, ◌++◌, ℤ, pos, negsuc}
use Rattle.text.specs.Text.{ascii, decimal_of}

-- "in decimal (a minus only below zero)"
unfoldable pub signed_of : ℤ → List ℕ
signed_of (pos n) = decimal_of n
signed_of (negsuc n) = ascii "-" ++ decimal_of (suc n)
