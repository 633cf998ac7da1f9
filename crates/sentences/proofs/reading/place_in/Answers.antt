use Rattle.std.proofs.Common.{◌∙◌, sym, refl, ap, get_or, arith}
use Rattle.sentences.specs.Guess.{longer, place_from}
use Rattle.sentences.proofs.Steps.{place_next, place_end}
use Rattle.sentences.proofs.reading.place_in.Goals as goal

pub loop-b-init : goal.loop-b-init
loop-b-init c = (0, refl, refl)

pub loop-b-preserved : goal.loop-b-preserved
loop-b-preserved c =
    let (v, is, says) = c.loop-b.invariant in
    let bytes = c.args.bytes.now in let i = c.loop-b.b-index in
    (longer v (get_or bytes i 0), c.lengthen-place.ensures v is, place_next bytes v _ i (omega arith) refl ∙ says)

pub returns : goal.returns
returns c =
    let (v, is, says) = c.loop-b.invariant in
    is ∙ ap place_from (sym (place_end _ v c.loop-b.b-index (omega arith)) ∙ says)
