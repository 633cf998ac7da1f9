use Rattle.fields.proofs.Joining.{less_fits, signed_low, signed_high}
use Rattle.fields.proofs.numbers.signed.Goals as goal

pub overflow_sub-result : goal.overflow_sub-result
overflow_sub-result c = less_fits c.unsigned-x.result c.unsigned-x.ensures.upper_bound

pub returns-then-x-lt32768 : goal.returns-then-x-lt32768
returns-then-x-lt32768 c =
    let a = c.args in let u = c.unsigned-x in
    signed_low a.bytes.now a.at u.result u.ensures.value c.if-x-lt32768.true

pub returns-else-x-lt32768 : goal.returns-else-x-lt32768
returns-else-x-lt32768 c =
    let a = c.args in let u = c.unsigned-x in
    signed_high a.bytes.now a.at u.result u.ensures.value u.ensures.upper_bound c.if-x-lt32768.false
