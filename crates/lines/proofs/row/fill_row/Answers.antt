use Rattle.prelude.proofs.Logic.{◌≡◌, ap, ◌∙◌, List, ◌++◌, ℕ, ◌<◌, arith, pos, length, get_or, take, rules, w64}
use Rattle.integers.proofs.Ranges.{read_back}
use Rattle.text.specs.Text.{ascii}
use Rattle.lines.specs.Lines.{time_text, times_text}
use Rattle.lines.specs.Since.{epoch, row_since}
use Rattle.lines.proofs.LinesLaws.{date_length}
use Rattle.lines.proofs.Parts.{date_put, time_put, newline-put}
use Rattle.lines.proofs.row.fill_row.Goals as goal

pub loop-i-init : goal.loop-i-init
loop-i-init c =
    let a = c.args in
    let d = date_put a.date a.times.now a.line.now c.put.new.buffer _ c.requires.1 c.date_text.ensures c.put.ensures in
    (c.put.auto.buffer ∙ c.requires.1, a.line.now, c.requires.1, d.1)

pub loop-i-preserved : goal.loop-i-preserved
loop-i-preserved c =
    let a = c.args in
    let d = date_put a.date a.times.now a.line.now c.put.new.buffer _ c.requires.1 c.date_text.ensures c.put.ensures in
    let l = c.loop-i in
    let h : l.i < length a.times.now = omega arith in
    let text = c.time_text in
    let put = c.put-in-loop-i in
    let k : read_back w64 (get_or a.times.now l.i (pos 0)) ≡ get_or a.times.now l.i (pos 0) = search rules in (
      put.auto.buffer ∙ l.invariant.0,
      l.invariant.1,
      l.invariant.2,
      time_put (take 10 c.put.new.buffer) (ap length d.0 ∙ date_length a.date) a.times.now l.i (pos 0)
          l.invariant.1 l.line _ text.result h l.invariant.2 l.invariant.3 (text.ensures ∙ ap (time_text epoch) k) put.ensures,
    )

pub returns : goal.returns
unfolding row_since
returns c =
    let a = c.args in
    let l = c.loop-i in
    let put = c.put-2 in
    let date = (date_put a.date a.times.now a.line.now c.put.new.buffer _ c.requires.1 c.date_text.ensures c.put.ensures).0 in
    let end : l.i ≡ length a.times.now = omega arith in
    newline-put (take 10 c.put.new.buffer) (ap length date ∙ date_length a.date) a.times.now l.i l.invariant.1 l.line
    put.new.buffer end l.invariant.2 l.invariant.3 (rw (← end) at put.ensures)
    ∙ ap (λ (text : List ℕ). text ++ times_text epoch a.times.now ++ ascii "\n") date
