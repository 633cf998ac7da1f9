-- Past the end both bytes are 0.
use Rattle.prelude.proofs.Logic.{◌≡◌, ◌+◌, arith, get_or, List·getD-eq-default, rules}
use Rattle.fields.specs.Numbers.{unsigned_of}
use Rattle.fields.proofs.numbers.unsigned.Goals as goal

pub returns-else-at-bytes : goal.returns-else-at-bytes
unfolding unsigned_of
returns-else-at-bytes c =
    let v = c.args.bytes.now in
    let a = c.args.at in
    let low : get_or v a 0 ≡ 0 = List·getD-eq-default v 0 c.if-at-bytes.false in
    let high : get_or v (a + 1) 0 ≡ 0 = List·getD-eq-default v 0 (omega arith) in
    record {
      value = simp (low, high);
      upper_bound = search rules;
    }

pub returns-then-at-bytes-clause-value : goal.returns-then-at-bytes-clause-value
unfolding unsigned_of
returns-then-at-bytes-clause-value c = simp (c.byte.ensures.value, c.byte-then-at-bytes.ensures.value)
