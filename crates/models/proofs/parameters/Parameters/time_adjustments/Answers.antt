use Rattle.prelude.proofs.Logic.{◌≡◌, ◌∙◌, arith, rules, w32, w64, SFits}
use Rattle.integers.proofs.Integers.{sum, summands, range, read_back, read}
use Rattle.models.specs.Settings.{time_adjustments_of}
use Rattle.models.proofs.parameters.Parameters.time_adjustments.Goals as goal

pub returns : goal.returns
unfolding time_adjustments_of
returns c =
    let x = c.minutes_for.result in let y = c.minutes_for-2.result in
    let k : read_back w64 c.sum.result ≡ c.sum.result = search rules in let a : SFits w32 x = search rules in
    let b : SFits w32 y = search rules in let e = k ∙ c.sum.ensures ∙ summands (read w32 x a) (read w32 y b) in let s = sum x y in
    let m = range w32 x a in let n = range w32 y b in (
      e ∙ summands c.minutes_for.ensures c.minutes_for-2.ensures,
      record { from = rw e (omega arith); to = rw e (omega arith) },
    )
