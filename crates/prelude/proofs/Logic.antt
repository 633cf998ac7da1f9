-- The names of the logic that proofs use, in one place: equality, truth values, lists, whole numbers and their arithmetic, memory's
-- words, the searches, and the few names of Cases.
pub use mathlib.Core.Path.{◌≡◌, refl, ap, sym, ◌∙◌, subst, fun_ext}
pub use mathlib.Core.Bool.{Bool, true, false, not, cond, ◌&&◌, true≢false, ◌||◌, beq as Bool·beq, false≢true, and-eq-true_iff}
pub use mathlib.Core.List.{List, [], ◌∷◌, ◌++◌, append_assoc, append-nil, map}
pub use mathlib.Core.Logic.{inl, inr, ⊎_elim, ◌⊎◌}
pub use Prim.Native.Nat.Ordering.{eq as Ordering·eq}
pub use Prim.Native.Nat.Ordering.{gt as Ordering·gt}
pub use Prim.Native.Nat.Ordering.{lt as Ordering·lt}
pub use Prim.Native.Nat.{ℕ, zero, suc, ◌+◌, ◌-◌, ◌*◌, ◌/◌, ◌^◌, ◌≤◌, ◌<◌, ◌%◌, compare, Ordering}
pub use Prim.Native.Nat.{min, zero-le}
pub use native.Mathlib.Nat.{pow-succ', le_trans, mul-pos, one-mul, one-le-pow, pow-zero, add-le-add, mul-le-mul_right, mul-le-mul_left}
pub use native.Mathlib.Nat.{le_of_mul-le-mul_right, add_comm, zero-add, mul-one, zero-mul, mul-le-mul, le_of_eq, lt_of_le_of_lt, mul_assoc}
pub use native.Mathlib.Nat.{div-add-mod', mod-lt, div-lt_iff_lt-mul, add_assoc, add_left_comm, add-zero, mul_comm, mul_left_comm, mul-add}
pub use native.Mathlib.Nat.{add-mul, mul-zero, lt_of_lt_of_le, eq-or-lt_of_le, lt-div-mul-add, sub-add_cancel, pow-suc, le_of_lt}
pub use native.Mathlib.Nat.{add-sub_of_le, le_of_suc-le-suc, not-suc-le-zero, le_refl, le_antisymm, lt_irrefl, zero-lt-suc}
pub use native.Mathlib.Nat.{pow-le-pow_right, le-add_left, lt_of_not-le, not-le_of_lt, suc-mul, lt_of_mul-lt-mul_right}
pub use native.Mathlib.Nat.{mul-lt-mul_of_pos_right, eq-zero-or-pos, mod-eq_of_lt, mul-div_cancel, mul_right_comm, lt_trans}
pub use native.Mathlib.Nat.{eq_of_mul-eq-mul_right, pow-le-pow_left, mod-le, add-sub_cancel_left, div-mul-le_self, min-eq_left}
pub use native.Mathlib.Nat.{le-div_iff_mul-le, zero-mod, mod-one, min-eq_right, zero-div, mul-sub, pos_of_ne-zero, add-mul-mod_self_left}
pub use native.Mathlib.Nat.{div-eq_of_lt-le, div-le_self, div-eq_of_lt, add-div_right, div-div-eq-div-mul, mul-div-mul_left}
pub use native.Mathlib.Nat.{mul-div-mul_right, suc-add, add-suc, div-one}
pub use native.Mathlib.Numerals.{add-one}
pub use native.Mathlib.Omega.{arith}
pub use lib.Ieee.Fits.{and_l, and_r}
pub use lib.Dec.{T, ltb, ltb→lt, nltb→le, lit<, lit≤, leb, leb→le, is_le, compare_is_eq, nleb→lt, eqb→eq, eqb, le→leb, lt→ltb, eqb_refl}
pub use lib.IntN.{ℤ, pos, negsuc, neg_ℤ, nat_abs, ◌-ℤ◌, ◌*ℤ◌, ◌+ℤ◌, +ℤ_idr, +ℤ_idl, sub_ℕ, neg_ℤ-neg_ℤ, +ℤ_assoc, +ℤ_comm}
pub use lib.ListN.{length, replicate, get_or, take, drop, length-append, get_or-eq_default as List·getD-eq-default, drop_of_length-le, length-drop, set}
pub use lib.ListN.{get_or-replicate, length-set, take-append-drop, length-take, length-map, get_or-append as List·getD-append, get_or-map as List·getD-map}
pub use lib.Seq.{take_all, length-take-le, take-suc, take-nil, drop-length, ext_get_or, get_or-set_same, get_or-set_other, take-append_seam}
pub use lib.Seq.{drop-cons, take-add, drop-append-add, drop-drop, take_at, take-append-le, take-length, slice, slice_empty, slice-cons}
pub use lib.Seq.{length-slice, drop-append-le, set-append_seam, split_at, get_or-take, paste, paste-zero, paste-suc, set_split, drop_at}
pub use lib.Pow.{pow_pos, pow_mono, pow-add, shl_lt, pow-lt, le_ones}
pub use lib.Signed.{lt_z, quot_z, rem_z, non_neg, le_z, mag, pos-nat_abs}
pub use borrow.Author.Rules.{rules}
pub use borrow.Author.Tests.{le-leb, le-ltb, lt-leb, ne_eqb, lt-ltb, leb-true, ltb-true, ltb-false, eq-eqb, not-true, not-false, leb-false}
pub use borrow.Author.Tests.{eqb-true, eqb-false}
pub use mir.Syntax.{w32, w64, Width, w8, w16, w128}
pub use mir.Val.{SFits, to_z, Fits, bool_byte, of_z, bits, hbits}
pub use mir.Facts.{to_z_pos, to_z-of_z, sfits_widen}
pub use Rattle.prelude.proofs.Cases.{cases, arms, either, both, Others, beyond}
