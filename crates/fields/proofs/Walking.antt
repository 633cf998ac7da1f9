-- One step of each walk over the fields. Assumes nothing.
use Rattle.prelude.proofs.Logic.{◌≡◌, refl, Bool, true, List, ℕ, zero, suc, ◌≤◌, ◌<◌, ◌+◌, arith, length, set, lt-ltb, le-ltb, eq-eqb}
use Rattle.prelude.proofs.Logic.{ne_eqb}
use Rattle.refusals.specs.Refusals.{refusal, no_refusal}
use Rattle.fields.specs.declared.values.Fields.{Fields}
use Rattle.fields.specs.Numbers.{byte_of}
use Rattle.fields.specs.Fields.{length_at, next_field_at, fault_of, walk_of}
use Rattle.fields.specs.Values.{put_of, collect_of}

module _ (s : List ℕ) (at : ℕ) where
  pub walk-stop : (k : ℕ) (seen : List Bool) → length s ≤ at + k → at < length s → (fault_of s seen at ≡ 0 → ⊥)
      → walk_of k s seen at ≡ refusal (fault_of s seen at) at
  unfolding walk_of
  walk-stop zero seen h l f = absurd (omega arith)
  walk-stop (suc k) seen h l f = simp (lt-ltb _ _ l, ne_eqb (fault_of s seen at) 0 f)

  pub walk-on : (k : ℕ) (seen : List Bool) → at < length s → fault_of s seen at ≡ 0
      → walk_of (suc k) s seen at ≡ walk_of k s (set seen (byte_of s at) true) (next_field_at s at)
  unfolding walk_of
  walk-on k seen l f = simp (lt-ltb _ _ l, eq-eqb (fault_of s seen at) 0 f)

  pub walk_end : (k : ℕ) (seen : List Bool) → length s ≤ at → walk_of k s seen at ≡ no_refusal
  unfolding walk_of
  walk_end zero seen h = refl
  walk_end (suc k) seen h = simp (le-ltb _ _ h)

  pub collect-on : (k : ℕ) (fields : Fields) → at < length s
      → collect_of (suc k) s fields at ≡ collect_of k s (put_of fields (byte_of s at) (at + 3) (length_at s at)) (next_field_at s at)
  unfolding collect_of
  collect-on k fields l = simp (lt-ltb _ _ l)

  pub collect-end : (k : ℕ) (fields : Fields) → length s ≤ at → collect_of k s fields at ≡ fields
  unfolding collect_of
  collect-end zero fields h = refl
  collect-end (suc k) fields h = simp (le-ltb _ _ h)
