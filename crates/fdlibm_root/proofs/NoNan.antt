-- When a float is no NaN, and when a pattern is no NaN's: `f64::to_bits` and `f64::from_bits` require this.
use Rattle.prelude.proofs.Logic.{◌≡◌, sym, ◌∙◌, subst, Bool, not, false≢true, ℕ, ◌%◌, ◌^◌, ◌<◌, le_of_lt, lt_trans, mod-eq_of_lt, T}
use Rattle.prelude.proofs.Logic.{lit<, le-ltb}
use Rattle.prelude.proofs.Ieee.{Float, nan, inf, fin, binary64, is_nan, lt, nan_bits, nan_bits_above}
use Rattle.fdlibm_root.proofs.Patterns.{Above}

pub no_nan : (x : Float) → Above x → T (not (is_nan x))
unfolding lt is_nan
no_nan nan h = absurd (false≢true h)
no_nan (inf s) h = tt
no_nan (fin s m e) h = tt

-- a pattern below the infinity's is no NaN's
pub no_nan_bits : (n : ℕ) → n < 0x7ff0_0000_0000_0000 → T (not (nan_bits binary64 n))
no_nan_bits n h =
    let same : n % 2 ^ 63 ≡ n = mod-eq_of_lt (lt_trans h (lit< tt)) in
    subst (λ (b : Bool). T (not b)) (sym (nan_bits_above binary64 n ∙ le-ltb 0x7ff0_0000_0000_0000 (n % 2 ^ 63) (rw same (le_of_lt h)))) tt
