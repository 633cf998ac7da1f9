-- Which integers an i32 or an i64 holds, by their parts; and that the machine reads back an integer that it holds. Assumes nothing.
use Rattle.prelude.proofs.Logic.{◌≡◌, sym, subst, ◌∙◌, ◌^◌, ◌≤◌, ◌<◌, arith, ℤ, pos, negsuc, Width, w32, w64, SFits, to_z, of_z, hbits}
use Rattle.prelude.proofs.Logic.{sfits_widen}
use mir.ValLaws.{to_z-of_z}
use Rattle.integers.specs.Parts.{P, N}

-- z is from -2 ^ h to 2 ^ h - 1, where h is the width less its sign bit: 31, 63
pub record Range (w : Width) (z : ℤ) : Type 0 where
  pub high : P z < 2 ^ hbits w
  pub low : N z ≤ 2 ^ hbits w

pub fits : (w : Width) (z : ℤ) → P z < 2 ^ hbits w → N z ≤ 2 ^ hbits w → SFits w z
fits w (pos n) h l = record { sfits = h }
fits w (negsuc n) h l = record { sfits = l }

pub range : (w : Width) (z : ℤ) → SFits w z → Range w z
range w (pos n) h = record { high = h.sfits; low = omega arith }
range w (negsuc n) h = record { high = omega arith; low = h.sfits }

-- the integer that the machine reads from z's bits
abbrev pub read_back : Width → ℤ → ℤ
read_back w z = to_z w (of_z w z)

pub read : (w : Width) (z : ℤ) → SFits w z → read_back w z ≡ z
read w z h = to_z-of_z w z h

-- an i32 as an i64: it fits, and nothing is lost
pub wide : (z : ℤ) → SFits w32 z → SFits w64 (read_back w32 z)
wide z h = subst (λ (x : ℤ). SFits w64 x) (sym (read w32 z h)) (sfits_widen tt h)

pub read_wide : (z : ℤ) → SFits w32 z → read_back w64 (read_back w32 z) ≡ z
read_wide z h = read w64 (read_back w32 z) (wide z h) ∙ read w32 z h
