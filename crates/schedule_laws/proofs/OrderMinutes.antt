-- How large the sums of an order's minutes can be: no method adds more than 7 minutes, and no order more than 720. antt tests every method
-- and prayer. Assumes nothing.
use Rattle.prelude.proofs.Logic.{sym, subst, Bool, true, ◌&&◌, List, [], ◌∷◌, ℕ, zero, suc, ◌^◌, lit≤, leb, leb→le, T, get_or, and_l, and_r}
use Rattle.integers.proofs.Integers.{P, N, Near, wider, sum_between}
use Rattle.models.specs.declared.{adjustments.TimeAdjustment.TimeAdjustment, method.Method.Method, parameters.Parameters.Parameters}
use Rattle.models.specs.declared.{prayer.Prayer.Prayer, method.Method.TheVariants.Other, prayer.Prayer.TheVariants.FajrTomorrow}
use Rattle.models.specs.Numbers.{methods, prayers}
use Rattle.models.proofs.Models.{method_number_of, method_of, prayer_number_of, prayer_of, preset, preset_of, minutes_for, time_adjustments_of}
use Rattle.models.specs.NumbersLaws.{method_back, prayer_back}
use Rattle.order.specs.Accepted.{ParametersInOrder}

-- a test that passes for each element of a list passes for the one at k
abbrev every : {C : Type 0} → (C → Bool) → List C → Bool
every f [] = true
every f (c ∷ cs) = f c && every f cs

every_at : {C : Type 0} (f : C → Bool) (cs : List C) (d : C) → T (every f cs) → T (f d) → (k : ℕ) → T (f (get_or cs k d))
every_at f [] d t l k = l
every_at f (c ∷ cs) d t l zero = and_l (f c) (every f cs) t
every_at f (c ∷ cs) d t l (suc k) = every_at f cs d (and_r (f c) (every f cs) t) l k

abbrev brings_few : Method → Prayer → Bool
brings_few method prayer = let z = minutes_for prayer (preset_of method).method_adjustments in leb (N z) 7 && leb (P z) 7

presets_near : (method : Method) (prayer : Prayer) → Near 7 (minutes_for prayer (preset_of method).method_adjustments)
unfolding preset_of preset minutes_for method_of prayer_of
presets_near method prayer =
    let each = subst (λ (m : Method). T (every (brings_few m) prayers)) (method_back method)
    (every_at (λ m. every (brings_few m) prayers) methods Other tt tt (method_number_of method)) in
    let few = subst (λ (p : Prayer). T (brings_few method p)) (prayer_back prayer)
    (every_at (brings_few method) prayers FajrTomorrow each tt (prayer_number_of prayer)) in
    let z = minutes_for prayer (preset_of method).method_adjustments in
    let low = leb (N z) 7 in
    let high = leb (P z) 7 in
    record { from = leb→le (N z) 7 (and_l low high few); to = leb→le (P z) 7 (and_r low high few) }

module _ (p : Parameters) (allowed : ParametersInOrder p) (prayer : Prayer) where
  pub sums-near : Near 727 (time_adjustments_of p prayer)
  unfolding time_adjustments_of
  sums-near =
      sum_between (allowed.own prayer)
      (subst (λ (m : TimeAdjustment). Near 7 (minutes_for prayer m)) (sym allowed.preset) (presets_near p.method prayer))

  -- so the laws of later minutes apply to them
  pub sums-held : Near (2 ^ 32) (time_adjustments_of p prayer)
  sums-held = wider sums-near (lit≤ tt) (lit≤ tt)
