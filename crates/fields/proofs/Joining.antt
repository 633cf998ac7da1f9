-- Laws of the numbers that bytes write: a byte put behind others by a shift, and sixteen signed bits in an i32.
use Rattle.prelude.proofs.Logic.{◌≡◌, sym, ap, ◌∙◌, List, ℕ, ◌≤◌, ◌<◌, ◌+◌, ◌*◌, ◌^◌, ◌%◌, mod-eq_of_lt, lt_of_lt_of_le, add-one, arith}
use Rattle.prelude.proofs.Logic.{refl, zero, suc, take, get_or-take}
use Rattle.prelude.proofs.Logic.{pos, ◌-ℤ◌, pow_mono, pow-add, lt-ltb, le-ltb, w32, to_z, of_z, SFits, to_z_pos, to_z-of_z}
use lib.Bits.{bit_or, or_shifted}
use Rattle.fields.specs.Numbers.{byte_of, unsigned_of, signed_at_of, bytes_number_of}

pub join_on : (v : List ℕ) (i : ℕ) → bytes_number_of (i + 1) v ≡ bytes_number_of i v * 256 + byte_of v i
unfolding bytes_number_of
join_on v i = rw add-one

-- a shift by a byte and an or put a byte behind fewer than eight
pub shift_in : (x b i : ℕ) → i < 8 → x < 2 ^ (8 * i) → b < 256 → bit_or (x * 2 ^ 8 % 2 ^ 64) b ≡ x * 256 + b
shift_in x b i h l s =
    let small : x < 2 ^ 56 = lt_of_lt_of_le l (pow_mono {j = 56} (omega arith)) in
    let kept : x * 2 ^ 8 % 2 ^ 64 ≡ x * 2 ^ 8 = mod-eq_of_lt (omega arith) in
    rw kept (or_shifted x 8 b s)

pub shift_room : (x b i : ℕ) → x < 2 ^ (8 * i) → b < 256 → x * 256 + b < 2 ^ (8 * (i + 1))
shift_room x b i l s =
    let e : 2 ^ (8 * i) * 256 ≡ 2 ^ (8 * (i + 1)) = sym (pow-add 2 (8 * i) 8) ∙ ap (λ (n : ℕ). 2 ^ n) (omega arith) in
    rw (sym e) (omega arith)

-- a number of sixteen bits less 65,536 fits an i32
pub less_fits : (x : ℕ) → x < 65536 → SFits w32 (to_z w32 x -ℤ pos 65536)
less_fits x h = rw (to_z_pos w32 {n = x} (omega arith)) (rw (lt-ltb x 65536 h) (record { sfits = omega arith }))

module _ (v : List ℕ) (at x : ℕ) (is_x : x ≡ unsigned_of v at) where
  pub signed_low : x < 32768 → to_z w32 x ≡ signed_at_of v at
  unfolding signed_at_of
  signed_low h = to_z_pos w32 {n = x} (omega arith) ∙ simp (sym is_x, lt-ltb _ _ h)

  pub signed_high : x < 65536 → 32768 ≤ x → to_z w32 (of_z w32 (to_z w32 x -ℤ pos 65536)) ≡ signed_at_of v at
  unfolding signed_at_of
  signed_high u h = to_z-of_z (less_fits x u) ∙ rw (to_z_pos w32 {n = x} (omega arith)) (simp (sym is_x, le-ltb _ _ h))

-- the first n of more bytes write the same number as all of them
pub cut_joined : (v : List ℕ) (k n : ℕ) → n ≤ k → bytes_number_of n (take k v) ≡ bytes_number_of n v
unfolding bytes_number_of
cut_joined v k zero l = refl
cut_joined v k (suc n) l = rw (cut_joined v k n (omega arith), get_or-take k v n 0 (omega arith))
