-- The sentence of the number and place that are found is compared whole (`Guessing`). If it is the bytes, they say it; else nothing.
use Rattle.std.proofs.Common.{◌∙◌, ap, rules}
use Rattle.sentences.specs.Guess.{meaning_from}
use Rattle.sentences.proofs.Making.{reads_no_place, reads_unknown, reads_known}
use Rattle.sentences.proofs.sentence.refusal_in.Goals as goal

pub returns-in_err-place : goal.returns-in_err-place
returns-in_err-place c = ap meaning_from c.from_residual.ensures ∙ reads_no_place _ c.in_err-place.ensures

pub returns-in_err-sentence : goal.returns-in_err-sentence
returns-in_err-sentence c =
    ap meaning_from c.from_residual-in_err-sentence.ensures
    ∙ reads_unknown _ _ _ c.number_in-number.ensures c.in_ok-place.ensures c.in_err-sentence.ensures

pub returns : goal.returns
returns c =
    let s = c.in_ok-sentence.ensures in
    reads_known _ _ _ c.number_in-number.ensures c.in_ok-place.ensures _ _ _ _ s.0 s.1 (search rules) c.new.ensures c.then_some.ensures
