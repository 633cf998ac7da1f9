-- The line has the ten columns, or all but the first of them.
use Rattle.prelude.proofs.Logic.{◌≡◌, ap, ◌∙◌, ◌∷◌, ℤ, rules, w64, SFits, to_z-of_z}
use Rattle.integers.proofs.Ranges.{read_back}
use Rattle.lines.specs.Lines.{imsak_of, nine_of, columns_of}
use Rattle.lines.proofs.row.put_row.Goals as goal

pub returns-then-ramadan : goal.returns-then-ramadan
unfolding columns_of
returns-then-ramadan c =
    let put = c.put_columns.ensures in
    let a = c.args in
    let i = c.imsak in
    let k : read_back w64 i.result ≡ i.result = search rules in
    let f : SFits w64 a.times.fajr = search rules in
    let is : c.ten-ten.result ≡ imsak_of a.ramadan.imsak a.times.fajr ∷ nine_of a.times
    = c.ten-ten.ensures ∙ ap (λ (z : ℤ). z ∷ nine_of a.times) (k ∙ i.ensures ∙ ap (imsak_of a.ramadan.imsak) (to_z-of_z f)) in
    record { value = simp c.if-ramadan.true (rw is at put.value); buffer_after = simp c.if-ramadan.true (rw is at put.buffer_after) }

pub returns : goal.returns
unfolding columns_of
returns c =
    let put = c.put_columns-2.ensures in
    let a = c.args in
    let i = c.imsak in
    let k : read_back w64 i.result ≡ i.result = search rules in
    let f : SFits w64 a.times.fajr = search rules in
    let is : c.ten-ten.result ≡ imsak_of a.ramadan.imsak a.times.fajr ∷ nine_of a.times
    = c.ten-ten.ensures ∙ ap (λ (z : ℤ). z ∷ nine_of a.times) (k ∙ i.ensures ∙ ap (imsak_of a.ramadan.imsak) (to_z-of_z f)) in
    record { value = simp c.if-ramadan.false (rw is at put.value); buffer_after = simp c.if-ramadan.false (rw is at put.buffer_after) }
