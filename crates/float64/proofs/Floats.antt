-- The names of this crate and of the kit's floats that the crates above use, in one place. Nothing is added.
unfoldable pub use Rattle.prelude.proofs.Ieee.{neg, le, to_signed, of_int, round, of_bits, div, sum, add, sub, lt, eq, to_unsigned, units, fits}
unfoldable pub use Rattle.prelude.proofs.Ieee.{odd, of_fields, to_bits, size, is_nan, nan_bits, in_float, mul, in_unsigned, ne, whole}
pub use Rattle.prelude.proofs.Ieee.{down_pos, up_pos, round_is, round-fits, nearest-le, kept-lt, neg-fits, Float, binary64, nan, inf, fin}
pub use Rattle.prelude.proofs.Ieee.{up, down, unlike, nearest, Format, prec, low, hid, ones, top, HasValue, odd_sign, units_val}
pub use Rattle.prelude.proofs.Ieee.{round_exact, round_whole, unsigned_back, round_mono, transfer, drop, kept, le_of_values, round_same}
pub use Rattle.prelude.proofs.Ieee.{grid, overflow, finite, to_signed_in, is_true, of_bits-to_bits, nan_bits_above, nan_bits_is, is_false}
pub use Rattle.prelude.proofs.Ieee.{to_bits-lt, positive, positive_of_value, first_pos, values_of_le, between, size-lt, size-le}
pub use Rattle.prelude.proofs.Ieee.{size_reaches, closest, closest_same, nearest-ge, div_same, differs_from_itself, passes}
pub use Rattle.float64.proofs.Exact.{mul_same, sub_same, sub_zero64, dyadic, int_dyadic, add_dyadic, sub_dyadic}
pub use Rattle.float64.proofs.Limits.{within_limits, le_whole, from_zero, FromZero, to_tests}
pub use Rattle.float64.proofs.Parts.{zero64}
pub use Rattle.float64.proofs.Steps.{neg_at, inside}
pub use Rattle.float64.proofs.Values.{big, dyadic_value, lt_values}
pub use Rattle.float64.proofs.WholeSizes.{whole_size, signed, whole_most, cast_is, nearest_within, whole_neg, whole_least}
pub use Rattle.float64.proofs.WholeSizes.{whole_value}
pub use Rattle.float64.proofs.Within.{Within, within_signed, neg_within, mul_within, value_within, abs_within, widen, round-within}
pub use Rattle.float64.proofs.Within.{div_within, add_within, sub_within, apart_within, Signed, round-signed, round-neg, under_value}
unfoldable pub use Rattle.float64.specs.Ops.{dec}
pub use Rattle.float64.specs.Ops.{◌*ᶠ◌, ◌-ᶠ◌, ◌/ᶠ◌, ◌+ᶠ◌, bits}
pub use Rattle.float64.specs.Ranges.{inside_of, Inside}
unfoldable pub use Rattle.float64.specs.Sizes.{abs_of, is_normal_of}
unfoldable pub use Rattle.float64.specs.Whole.{round_of, floor_of}
pub use Rattle.float64.specs.Whole.{whole_part, fraction, half_up}
unfoldable pub use Rattle.float64.specs.Words.{is_negative_of, high_of}
