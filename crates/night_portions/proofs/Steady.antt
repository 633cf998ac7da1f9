-- A share of a night that grows with the night, and no faster. The instant that it marks is in the night, and later ends of the night
-- never make it earlier. Assumes nothing.
use Rattle.prelude.proofs.Logic.{◌≡◌, refl, Bool, true, false, ◌⊎◌, inl, inr, ⊎_elim, ℕ, suc, ◌+◌, ◌-◌, ◌≤◌, zero-le, le_of_lt, arith, leb}
use Rattle.prelude.proofs.Logic.{ℤ, pos, negsuc, neg_ℤ, ◌+ℤ◌, ◌-ℤ◌, leb-true, leb-false}
use Rattle.integers.proofs.Integers.{P, N, Near, sum, flip, difference, ◌≼◌, Inside}

-- 2 ^ 50 seconds: no night is longer
abbrev pub longest : ℕ
longest = 1125899906842624

abbrev pub Small : ℤ → Type 0
Small z = Near longest z

-- a share f d of each d seconds
pub record Steady (f : ℕ → ℕ) : Type 0 where
  pub none : f 0 ≡ 0
  pub grows : (d e : ℕ) → e ≤ longest → d ≤ e → f d ≤ f e
  pub slow : (d e : ℕ) → e ≤ longest → d ≤ e → f e ≤ f d + (e - d)

-- the share of a signed number of seconds, rounded toward zero
abbrev pub share : (ℕ → ℕ) → ℤ → ℤ
share f (pos d) = pos (f d)
share f (negsuc k) = neg_ℤ (pos (f (suc k)))

pub either : (a b : ℕ) → (a ≤ b) ⊎ (b ≤ a)
either a b = go (leb a b) refl
  where
    go : (t : Bool) → leb a b ≡ t → (a ≤ b) ⊎ (b ≤ a)
    go true h = inl (leb-true a b h)
    go false h = inr (le_of_lt (leb-false a b h))

module _ (f : ℕ → ℕ) (s : Steady f) where
  part : (d : ℕ) → d ≤ longest → f d ≤ d
  part d h = omega (arith, s.none, s.slow 0 d h zero-le)

  pub share-inside : (z : ℤ) → Small z → Inside (share f z) z
  share-inside (pos d) h = record { over = part d h.to; under = zero-le }
  share-inside (negsuc k) h =
      let g = flip (pos (f (suc k))) in
      let l = part (suc k) h.from in
      record { over = omega arith; under = omega arith }

  -- w is z + b - a
  step : (z w : ℤ) (a b : ℕ) → Small z → Small w → P w + N z + a ≡ P z + N w + b
      → P (share f z) + N (share f w) ≤ P (share f w) + N (share f z) + a
  step (pos d) (pos e) a b hz hw q =
      ⊎_elim (λ (l : d ≤ e). let r = s.grows d e hw.to l in omega arith) (λ (l : e ≤ d). let r = s.slow e d hz.to l in omega arith)
      (either d e)
  step (pos d) (negsuc k) a b hz hw q =
      let g = flip (pos (f (suc k))) in
      let u = part d hz.to in
      let v = part (suc k) hw.from in
      omega arith
  step (negsuc j) (pos e) a b hz hw q = let g = flip (pos (f (suc j))) in omega arith
  step (negsuc j) (negsuc k) a b hz hw q =
      let g = flip (pos (f (suc j))) in
      let h = flip (pos (f (suc k))) in
      ⊎_elim (λ (l : suc k ≤ suc j). let r = s.grows (suc k) (suc j) hz.from l in omega arith)
      (λ (l : suc j ≤ suc k). let r = s.slow (suc j) (suc k) hw.from l in omega arith) (either (suc k) (suc j))

  -- the night is from m to e, and then from m' to e'
  pub share-later : (m e m' e' : ℤ) → m ≼ m' → e ≼ e' → Small (e -ℤ m) → Small (e' -ℤ m') → m +ℤ share f (e -ℤ m) ≼ m' +ℤ share f (e' -ℤ m')
  share-later m e m' e' hm he hz hw =
      let a = P m' + N m - (P m + N m') in
      let b = P e' + N e - (P e + N e') in
      let d = difference e m in
      let d' = difference e' m' in
      let r = step (e -ℤ m) (e' -ℤ m') a b hz hw (omega (arith, d.0, d.1, d'.0, d'.1)) in
      let t = sum m (share f (e -ℤ m)) in
      let t' = sum m' (share f (e' -ℤ m')) in
      omega arith
