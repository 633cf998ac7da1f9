-- A high word shifted up by 32 bits: no bit is lost, and the result is no NaN's pattern. Assumes nothing.
use Rattle.prelude.proofs.Logic.{◌≡◌, sym, subst, ◌∙◌, Bool, not, ℕ, ◌%◌, ◌*◌, ◌<◌, ◌≤◌, mod-le, mod-eq_of_lt, arith, T, le-ltb}
use Rattle.float64.proofs.Floats.{binary64, nan_bits, nan_bits_above}

pub shifted : (n : ℕ) → n < 4294967296 → n * 4294967296 % 18446744073709551616 ≡ n * 4294967296
shifted n h = mod-eq_of_lt (omega arith)

-- a pattern below the infinity's is no NaN's
pub below_inf : (n : ℕ) → n < 0x7ff0_0000_0000_0000 → T (not (nan_bits binary64 n))
below_inf n h =
    let m : n % 0x8000_0000_0000_0000 ≤ n = mod-le n 0x8000_0000_0000_0000 in
    subst (λ (b : Bool). T (not b))
    (sym (nan_bits_above binary64 n ∙ le-ltb 0x7ff0_0000_0000_0000 (n % 0x8000_0000_0000_0000) (omega arith))) tt
