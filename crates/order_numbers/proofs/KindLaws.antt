-- The bytes of a number are read as that number, if it or the number read is in range: a law for each kind of number. Assumes nothing.
use Rattle.prelude.proofs.Logic.{◌≡◌, refl, sym, ap, ◌∙◌, true, false, ℕ, zero, suc, ◌+◌, ◌-◌, ◌*◌, ◌%◌, ◌^◌, ◌≤◌, ◌<◌, div-add-mod'}
use Rattle.prelude.proofs.Logic.{pow_pos, arith, T, leb, ltb, eqb, ℤ, pos, negsuc, ◌-ℤ◌, lt-ltb, le-ltb, leb-false, ltb-true, ltb-false}
use Rattle.prelude.proofs.Logic.{eqb→eq, eqb-true, eq-eqb, ne_eqb, cases, both}
use Rattle.prelude.proofs.Ieee.{Float, nan, inf, fin, binary64, up, down, up_pos, fits, to_bits, of_bits, of_fields, le, lt, eq, round}
use Rattle.prelude.proofs.Ieee.{of_bits-to_bits, to_bits-lt}
use Rattle.order_numbers.proofs.Reader.{P, N, Near, same, difference, dec, unsigned_of, with_sign, signed_at_of, bytes_number_of, bits_of}
use Rattle.order_numbers.proofs.Reader.{float_of, degrees_in}
use Rattle.order_numbers.specs.Bytes.{up_to, word_for, two_bytes, sixteen_for, signed_bytes, shift_for, shift_byte, eight_bytes}
use Rattle.order_numbers.specs.Bytes.{minus_zero, float_bytes}

pub record Kept {A : Type 0} (In : A → Type 0) (read x : A) : Type 0 where
  pub held : In read → read ≡ x
  pub is : In x → read ≡ x

same_read : {A : Type 0} {In : A → Type 0} {read x : A} → read ≡ x → Kept In read x
same_read e = record { held = λ h. e; is = λ h. e }

-- the law, if both are out of range
neither : {A : Type 0} {In : A → Type 0} {read x : A} → (In read → ⊥) → (In x → ⊥) → Kept In read x
neither f g = record { held = λ h. absurd (f h); is = λ h. absurd (g h) }

-- ---- unsigned numbers of at most k, if the bytes hold more than k
pub unsigned : (k most n : ℕ) → k < most → Kept (λ (m : ℕ). m ≤ k) (up_to most n) n
unfolding up_to
unsigned k most n l =
    cases (leb n most) (λ t. simp t (same_read refl))
    (λ t. let over = leb-false n most t in simp t (neither (λ h. omega arith) (λ h. omega arith)))

pub two_back : (n : ℕ) → unsigned_of (two_bytes n) 0 ≡ n
unfolding unsigned_of two_bytes
two_back n = div-add-mod' n 256

pub word : (k n : ℕ) → k < 65535 → Kept (λ (m : ℕ). m ≤ k) (unsigned_of (two_bytes (word_for n)) 0) n
word k n l = rw (two_back (word_for n)) (unsigned k 65535 n l)

-- ---- signed numbers in sixteen bits, from -k to k
sixteen_is : (z : ℤ) → N z ≤ 32768 → P z ≤ 32767 → with_sign (sixteen_for (P z) (N z)) ≡ z
unfolding sixteen_for
sixteen_is (pos n) l h =
    let e : (n + (65536 - 0)) % 65536 ≡ n = omega arith in
    simp (le-ltb 32767 n h, e, lt-ltb n 32768 (omega arith))
sixteen_is (negsuc n) l h =
    let x = 65536 - suc n in
    let e : (0 + x) % 65536 ≡ x = omega arith in
    let d = difference (pos x) (pos 65536) in
    simp (le-ltb 32768 (suc n) l, e, le-ltb x 32768 (omega arith)) (same (pos x -ℤ pos 65536) (negsuc n) (omega (arith, d.0, d.1)))

pub sixteen : (k : ℕ) (z : ℤ) → k < 32767 → Kept (Near k) (with_sign (sixteen_for (P z) (N z))) z
unfolding sixteen_for
sixteen k z small =
    cases (ltb 32768 (N z))
    (λ t. let over = ltb-true 32768 (N z) t in simp t (neither (λ h. omega (arith, h.to)) (λ h. omega (arith, h.from))))
    (λ t. cases (ltb 32767 (P z))
    (λ u. let over = ltb-true 32767 (P z) u in simp (t, u) (neither (λ h. omega (arith, h.to)) (λ h. omega (arith, h.to))))
    (λ u. same_read (sixteen_is z (ltb-false 32768 (N z) t) (ltb-false 32767 (P z) u))))

pub signed : (k : ℕ) (z : ℤ) → k < 32767 → Kept (Near k) (signed_at_of (signed_bytes z) 0) z
unfolding signed_at_of
signed k z small = rw (two_back (sixteen_for (P z) (N z))) (sixteen k z small)

-- ---- a shift
pub shift : (z : ℤ) → Kept (Near 1) (pos (shift_byte z) -ℤ pos 1) z
unfolding shift_for
shift z =
    cases (ltb 1 (N z)) (λ t. let over = ltb-true 1 (N z) t in simp t (neither (λ h. omega (arith, h.to)) (λ h. omega (arith, h.from))))
    (λ t. cases (ltb 1 (P z))
    (λ u. let over = ltb-true 1 (P z) u in simp (t, u) (neither (λ h. omega (arith, h.to)) (λ h. omega (arith, h.to))))
    (λ u. let few = ltb-false 1 (N z) t in
    let x = P z + 1 - N z in
    let d = difference (pos x) (pos 1) in
    simp (t, u) (same_read (same (pos x -ℤ pos 1) z (omega (arith, d.0, d.1))))))

pub stored_small : (x : ℕ) → Near 1 (pos x -ℤ pos 1) → x ≤ 2
stored_small x h = let d = difference (pos x) (pos 1) in omega (arith, d.0, d.1, h.from, h.to)

-- ---- floats: only -0.0 is read as another float
pub no : {X : Type 0} → true ≡ false → X
no e = let z : ◌≡◌ {A = ℕ} 0 1 = cc in absurd (omega arith)

eight_back : (n : ℕ) → n < 2 ^ 64 → bits_of (eight_bytes n) ≡ n
unfolding bits_of bytes_number_of eight_bytes
eight_back n h = omega arith

-- a float that compares as 0 is 0.0 or -0.0
zero_only : (x : Float) → T (fits binary64 x) → eq x (dec 0 0) ≡ true → (to_bits binary64 x ≡ minus_zero → ⊥) → x ≡ dec 0 0
unfolding eq dec round fits to_bits
zero_only nan f e n = no (sym e)
zero_only (inf s) f e n = no (sym e)
zero_only (fin false zero (pos zero)) f e n = refl
zero_only (fin true zero (pos zero)) f e n = absurd (n refl)
zero_only (fin s zero (pos (suc k))) f e n = let p = pow_pos k in absurd (omega (arith, eqb→eq (2 ^ suc k * 1) 1 f))
zero_only (fin s zero (negsuc k)) f e n = let p = pow_pos k in absurd (omega (arith, eqb→eq (1 * 2 ^ suc k) 1 f))
zero_only (fin s (suc m) d) f e n =
    let q = (both (eqb (suc m * up d * 1) (0 * 1 * down d)) _ e).0 in
    let p = up_pos d in
    absurd (omega (arith, eqb-true (suc m * up d * 1) (0 * 1 * down d) q))

pub float : (x : Float) → T (fits binary64 x) → (to_bits binary64 x ≡ minus_zero → ⊥) → degrees_in (float_bytes x) ≡ x
unfolding degrees_in float_of float_bytes
float x f n =
    let l = to_bits-lt binary64 x f in
    let b = ap (of_bits binary64) (eight_back (to_bits binary64 x) (omega arith)) ∙ of_bits-to_bits binary64 x f in
    rw (ne_eqb (to_bits binary64 x) minus_zero n, b) (cases (eq x (dec 0 0)) (λ t. simp t (sym (zero_only x f t n))) (λ t. simp t))

nothing_below_nan : (low : Float) → le low nan ≡ false
unfolding le lt eq
nothing_below_nan nan = refl
nothing_below_nan (inf s) = refl
nothing_below_nan (fin s m e) = refl

read_nan : (x : Float) → to_bits binary64 x ≡ minus_zero → degrees_in (float_bytes x) ≡ nan
unfolding degrees_in float_of bits_of bytes_number_of eight_bytes of_bits of_fields eq float_bytes
read_nan x q = simp (eq-eqb (to_bits binary64 x) minus_zero q)

pub float_held : (low x : Float) → T (fits binary64 x) → le low (degrees_in (float_bytes x)) ≡ true → degrees_in (float_bytes x) ≡ x
float_held low x f b = float x f (λ q. no (sym b ∙ ap (le low) (read_nan x q) ∙ nothing_below_nan low))
