-- The code's table is the definition's, and each of its numbers fits a byte.
use Rattle.prelude.proofs.Logic.{arith, le-leb, lt-leb}
use Rattle.fields.specs.Tags.{length_fits}
use Rattle.fields.proofs.FieldsLaws.{column_small}
use Rattle.fields.proofs.tags.length_fits.Goals as goal

pub returns-then-tag-gt-LAST_TAG : goal.returns-then-tag-gt-LAST_TAG
unfolding length_fits
returns-then-tag-gt-LAST_TAG c = simp (lt-leb _ _ c.if-tag-gt-LAST_TAG.true)

pub overflow_cast-result : goal.overflow_cast-result
unfolding length_fits
overflow_cast-result c = record { fits = omega (arith, column_small c.args.tag 0) }

pub overflow_cast-result-2 : goal.overflow_cast-result-2
unfolding length_fits
overflow_cast-result-2 c = record { fits = omega (arith, column_small c.args.tag 1) }

pub returns : goal.returns
unfolding length_fits
returns c = simp (le-leb _ _ c.if-tag-gt-LAST_TAG.false)
