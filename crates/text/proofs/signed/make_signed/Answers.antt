-- A minus sign and the digits of the size, or the digits alone.
use Rattle.prelude.proofs.Logic.{arith, w64}
use Rattle.std.proofs.lemmas.Int.{to_z-of_z}
use Rattle.text.proofs.SignedLaws.{minus-made, plain-made}
use Rattle.text.proofs.TextLaws.{digits_short}
use Rattle.text.proofs.signed.make_signed.Goals as goal

pub overflow_add-result : goal.overflow_add-result
overflow_add-result c =
    let d = digits_short 20 c.unsigned_abs.result in
    record { fits = omega (arith, c.put_decimal.ensures.value) }

pub returns-then-z-lt0 : goal.returns-then-z-lt0
returns-then-z-lt0 c =
    let digits = c.put_decimal.ensures in
    let made = minus-made c.args.text.now c.told-text c.args.z _ (to_z-of_z w64 c.args.z c.ranges.z) _ _ _ _ c.if-z-lt0.true
    c.unsigned_abs.ensures.value c.put.ensures digits.value digits.buffer_after in
    record { value = made.0; text_after = made.1 }

pub returns-else-z-lt0 : goal.returns-else-z-lt0
returns-else-z-lt0 c =
    let digits = c.put_decimal-else-z-lt0.ensures in
    let made = plain-made c.args.text.now c.told-text c.args.z _ (to_z-of_z w64 c.args.z c.ranges.z) _ _ _ c.if-z-lt0.false
    c.unsigned_abs-else-z-lt0.ensures.value digits.value digits.buffer_after in
    record { value = made.0; text_after = made.1 }
