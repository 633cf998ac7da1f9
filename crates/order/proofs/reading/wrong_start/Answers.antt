-- The day's number and the shift are passed on as they are read back from their bits.
use Rattle.prelude.proofs.Logic.{◌≡◌, sym, ap, ◌∙◌, Bool, ℤ, rules, w32, w64, SFits, to_z-of_z}
use Rattle.calendar.specs.Days.{day_number_of}
use Rattle.calendar.specs.declared.dates.Date.{Date}
use Rattle.hijri.specs.Ramadan.{ramadan_start_of}
use Rattle.integers.proofs.Ranges.{read_back}
use Rattle.refusals.specs.Refusals.{unless_refused}
use Rattle.order.specs.Reading.{wrong_start_of}
use Rattle.order.proofs.reading.wrong_start.Goals.{else-ramadan-via-then-ramadan+else-not-is_ramadan_start, else-ramadan-via-else-ramadan}
use Rattle.order.proofs.reading.wrong_start.Goals as goal

told : (date : Date) (day shift : ℤ) (starts : Bool) → starts ≡ ramadan_start_of (read_back w64 day) (read_back w32 shift)
    → read_back w64 day ≡ day → day ≡ day_number_of date → SFits w32 shift → starts ≡ ramadan_start_of (day_number_of date) shift
told date day shift starts e k d f =
    e ∙ ap (λ (z : ℤ). ramadan_start_of z (read_back w32 shift)) (k ∙ d) ∙ ap (ramadan_start_of (day_number_of date)) (to_z-of_z f)

pub returns-then-not-is_ramadan_start : goal.returns-then-not-is_ramadan_start
unfolding wrong_start_of unless_refused
returns-then-not-is_ramadan_start c =
    let a = c.args in
    let t = told a.date c.day_number.result a.ramadan.shift c.is_ramadan_start.result c.is_ramadan_start.ensures (search rules)
    c.day_number.ensures (search rules) in
    simp (c.new.ensures, c.if-ramadan.true, sym t, c.if-not-is_ramadan_start.true)

pub returns : goal.returns
unfolding wrong_start_of unless_refused
returns c =
    elim c.else-ramadan.branch [
      | else-ramadan-via-then-ramadan+else-not-is_ramadan_start w ↦
          (let a = c.args in
          let t = told a.date w.day_number.result a.ramadan.shift w.is_ramadan_start.result w.is_ramadan_start.ensures (search rules)
          w.day_number.ensures (search rules) in
          simp (w.if-ramadan.true, sym t, w.if-not-is_ramadan_start.false))
      | else-ramadan-via-else-ramadan w ↦ simp w.if-ramadan.false
    ]
