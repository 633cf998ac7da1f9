use Rattle.prelude.proofs.Logic.{◌∙◌, ◌≡◌, rules, w64, ◌+ℤ◌}
use Rattle.integers.proofs.Integers.{read_back}
use Rattle.std.specs.Int.{saturate_signed}
use Rattle.whole_minutes.proofs.Saturation.{saturated}
use Rattle.whole_minutes.proofs.times.plus.Goals as goal

pub returns : goal.returns
returns c =
    let p : read_back w64 c.saturating_add.result ≡ c.saturating_add.result = search rules in
    let q : c.saturating_add.result ≡ saturate_signed w64 (c.args.a +ℤ c.args.b) = search rules in
    p ∙ q ∙ saturated _
