-- A value unless something is refused: which of the two it is tells whether something was. Assumes nothing.
use Rattle.prelude.proofs.Logic.{◌≡◌, ◌∙◌, sym, eqb, eqb-true, eqb-false, eq-eqb, ne_eqb, cases}
use Rattle.std.specs.Prelude.{Err, Ok}
use Rattle.refusals.specs.Refusals.{unless_refused}
use Rattle.refusals.specs.declared.Refusal.{Refusal}

module _ {A : Type 0} (r : Refusal) (value : A) where
  pub refuses : (r.number ≡ 0 → ⊥) → unless_refused r value ≡ Err r
  unfolding unless_refused
  refuses f = simp (ne_eqb r.number 0 f)

  pub refuses_not : r.number ≡ 0 → unless_refused r value ≡ Ok value
  unfolding unless_refused
  refuses_not e = simp (eq-eqb r.number 0 e)

  pub was_refused : (e : Refusal) → Err e ≡ unless_refused r value → (e ≡ r) × (r.number ≡ 0 → ⊥)
  was_refused e h =
      cases (eqb r.number 0) (λ z. let w = refuses_not (eqb-true r.number 0 z) in cc)
      (λ z. let n = eqb-false r.number 0 z in let w = refuses n in (cc, n))

  pub was_not : (x : A) → Ok x ≡ unless_refused r value → (r.number ≡ 0) × (x ≡ value)
  was_not x h =
      cases (eqb r.number 0) (λ z. let n = eqb-true r.number 0 z in let w = refuses_not n in (n, cc))
      (λ z. let w = refuses (eqb-false r.number 0 z) in cc)
