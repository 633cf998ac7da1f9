-- The words, a blank and the place's digits, put one after the other, are the sentence. An unknown number has none.
use Rattle.prelude.proofs.Logic.{[], arith, rules}
use Rattle.sentences.proofs.Making.{line_holds, line_filled, line_stays}
use Rattle.sentences.proofs.line.put_sentence.Goals as goal

pub returns-in_err-words-clause-line_after : goal.returns-in_err-words-clause-line_after
returns-in_err-words-clause-line_after c =
    let w = c.in_err-words.ensures in line_stays _ c.args.place c.args.line.now _ w.value w.line_after

pub overflow_add-result-2 : goal.overflow_add-result-2
overflow_add-result-2 c =
    let d = rw c.from.ensures at c.put_decimal.ensures.value in
    let r = line_holds _ c.args.place c.args.line.now [] [] [] _ _ (search rules) (search rules) c.in_ok-words.ensures.value.1 d in
    record { fits = omega (arith, r) }

pub returns : goal.returns
returns c =
    let w = c.in_ok-words.ensures in let d = rw c.from.ensures at c.put_decimal.ensures in let a = c.args in
    let s = line_filled _ a.place a.line.now _ c.put.new.buffer _ _ _ (search rules) (search rules) w.value.1 d.value w.value.0
    w.line_after c.put.ensures d.buffer_after in
    record { value = (w.value.0, s.0); line_after = s.1 }
