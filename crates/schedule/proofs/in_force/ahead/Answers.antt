use Rattle.prelude.proofs.Logic.{◌≡◌, ap, ◌∙◌, ℕ, ℤ, arith, ◌-ℤ◌, rules, w64, SFits}
use Rattle.integers.proofs.Integers.{differences, read, read_back, P}
use Rattle.schedule.proofs.Due as due
use Rattle.schedule.proofs.in_force.ahead.Goals as goal

told : (t s : ℤ) {r : ℕ} → SFits w64 t → SFits w64 s → r ≡ P (read_back w64 t -ℤ read_back w64 s) → r ≡ P (t -ℤ s)
told t s f g e = e ∙ ap P (differences (read w64 t f) (read w64 s g))

pub returns : goal.returns
returns c =
    let a = c.args in
    let f : SFits w64 a.instant.seconds = search rules in
    omega (arith, told a.time a.instant.seconds c.ranges.time f c.between.ensures, due.ahead_is a.time a.instant, c.saturating_sub.ensures, c.div_ceil-begun.ensures)
