-- The names of the kit's floats that proofs use, in one place. Nothing is added to them.
unfoldable pub use lib.Ieee.{neg, le, to_signed, of_int, round, of_bits, div, sum, add, sub, lt, eq, to_unsigned, units, fits, odd, of_fields}
unfoldable pub use lib.Ieee.{to_bits, size, is_nan, nan_bits, in_float, mul, in_unsigned, ne, whole}
pub use lib.Ieee.{Float, binary64, nan, inf, fin, up, down, unlike, nearest, Format, prec, low, hid, ones, top}
pub use denote.Floats.{passes}
pub use lib.Ieee.Back.{round_whole, unsigned_back}
pub use lib.Ieee.Bits.{is_true, of_bits-to_bits, nan_bits_above, nan_bits_is, is_false, to_bits-lt}
pub use lib.Ieee.Casts.{to_signed_in}
pub use lib.Ieee.Compare.{differs_from_itself}
pub use lib.Ieee.Digits.{size-lt, size-le, size_reaches}
pub use lib.Ieee.Exact.{HasValue, odd_sign, units_val, round_exact}
pub use lib.Ieee.Fits.{down_pos, up_pos, round_is, round-fits, nearest-le, kept-lt, neg-fits}
pub use lib.Ieee.Nearest.{closest, closest_same, nearest-ge, div_same}
pub use lib.Ieee.Order.{round_mono, transfer, drop, kept, le_of_values}
pub use lib.Ieee.Positive.{positive, positive_of_value, first_pos, values_of_le, between}
pub use lib.Ieee.Scale.{round_same, grid, overflow, finite}
