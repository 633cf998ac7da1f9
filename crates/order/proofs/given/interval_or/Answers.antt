-- A number of two bytes is the same number as an i32.
use Rattle.prelude.proofs.Logic.{◌≡◌, ℕ, ◌<◌, ◌∙◌, arith, pos, rules, w32, SFits, to_z, to_z-of_z, to_z_pos}
use Rattle.fields.specs.Values.{given_by}
use Rattle.order.specs.Given.{interval_or}
use Rattle.order.proofs.GivenLaws.{had, lacked}
use Rattle.order.proofs.given.interval_or.Goals as goal

two_bytes : (x : ℕ) → x < 65536 → to_z w32 x ≡ pos x
two_bytes x h = to_z_pos w32 {n = x} (omega arith)

pub returns-in-Some : goal.returns-in-Some
unfolding interval_or
returns-in-Some c =
    let u = c.unsigned in
    let h = had (given_by c.args.given) 14 _ c.in-Some.ensures in
    two_bytes u.result u.ensures.upper_bound ∙ simp (u.ensures.value, h.0, h.1)

pub returns-in-None : goal.returns-in-None
unfolding interval_or
returns-in-None c =
    let f : SFits w32 c.args.missing = search rules in
    simp (to_z-of_z f, lacked (given_by c.args.given) 14 c.in-None.ensures)
