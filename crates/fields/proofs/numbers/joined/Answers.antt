-- Invariant: x is the number that the first i bytes write, and has at most 8 i bits.
use Rattle.prelude.proofs.Logic.{◌≡◌, refl, ap, ◌∙◌, ℕ, arith}
use Rattle.fields.specs.Numbers.{bytes_number_of, bits_of}
use Rattle.fields.proofs.Joining.{join_on, shift_in, shift_room}
use Rattle.fields.proofs.numbers.joined.Goals as goal

pub loop-i-init : goal.loop-i-init
unfolding bytes_number_of
loop-i-init c = (refl, omega arith)

pub loop-i-preserved : goal.loop-i-preserved
loop-i-preserved c =
    let l = c.loop-i in
    let v = c.args.bytes.now in
    let s = shift_in l.x c.byte.result l.i (omega arith) l.invariant.1 c.byte.ensures.upper_bound in (
      rw (c.from.ensures, s, join_on v l.i) (omega arith),
      rw (c.from.ensures, s) (shift_room l.x c.byte.result l.i l.invariant.1 c.byte.ensures.upper_bound),
    )

pub returns : goal.returns
unfolding bits_of
returns c =
    let e : c.loop-i.i ≡ 8 = omega arith in
    c.loop-i.invariant.0 ∙ ap (λ (n : ℕ). bytes_number_of n c.args.bytes.now) e
