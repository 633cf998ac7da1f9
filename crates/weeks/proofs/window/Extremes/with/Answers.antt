use Rattle.prelude.proofs.Logic.{◌≡◌, ap, ◌∙◌, true, false, lt_z, rules, w64}
use Rattle.integers.proofs.Ranges.{read}
use Rattle.weeks.specs.Windows.{earlier_in}
use Rattle.weeks.specs.declared.window.Extremes.{Extremes}
use Rattle.weeks.proofs.ReportLaws.{earlier_yes, earlier_no, later_yes, later_no}
use Rattle.weeks.proofs.window.Extremes.with.Goals as goal
use Rattle.weeks.proofs.window.Extremes.with.Goals.{then-minute-self, else-minute-self}

pub returns-then-self-minute : goal.returns-then-self-minute
returns-then-self-minute c =
    let a = c.args in
    let y = c.if-minute-self.self in
    let m = read w64 a.minute c.ranges.minute in
    let early = read w64 a.self.earliest (search rules) in
    let first : y ≡ earlier_in a.self a.row a.minute = elim c.if-minute-self.branch [
      | then-minute-self w ↦ w.self-is ∙ rw m (earlier_yes a.self a.row a.minute (rw (m, early) at w.if-minute-self.true))
      | else-minute-self w ↦ w.self-is ∙ earlier_no a.self a.row a.minute (rw (m, early) at w.if-minute-self.false)
    ] in
    let kept : y.latest ≡ a.self.latest = elim c.if-minute-self.branch [
      | then-minute-self w ↦ ap (λ (e : Extremes). e.latest) w.self-is
      | else-minute-self w ↦ ap (λ (e : Extremes). e.latest) w.self-is
    ] in
    let test : lt_z y.latest a.minute ≡ true = rw kept (rw (kept, read w64 a.self.latest (search rules), m) at c.if-self-minute.true) in
    rw (← first, m) (later_yes y a.row a.minute test)

pub returns-else-self-minute : goal.returns-else-self-minute
returns-else-self-minute c =
    let a = c.args in
    let y = c.if-minute-self.self in
    let m = read w64 a.minute c.ranges.minute in
    let early = read w64 a.self.earliest (search rules) in
    let first : y ≡ earlier_in a.self a.row a.minute = elim c.if-minute-self.branch [
      | then-minute-self w ↦ w.self-is ∙ rw m (earlier_yes a.self a.row a.minute (rw (m, early) at w.if-minute-self.true))
      | else-minute-self w ↦ w.self-is ∙ earlier_no a.self a.row a.minute (rw (m, early) at w.if-minute-self.false)
    ] in
    let kept : y.latest ≡ a.self.latest = elim c.if-minute-self.branch [
      | then-minute-self w ↦ ap (λ (e : Extremes). e.latest) w.self-is
      | else-minute-self w ↦ ap (λ (e : Extremes). e.latest) w.self-is
    ] in
    let test : lt_z y.latest a.minute ≡ false = rw kept (rw (kept, read w64 a.self.latest (search rules), m) at c.if-self-minute.false) in
    rw (← first) (later_no y a.row a.minute test)
