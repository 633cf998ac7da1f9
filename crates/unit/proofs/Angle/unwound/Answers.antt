use Rattle.prelude.proofs.Logic.{◌≡◌, true, ap, rules}
use Rattle.float64.proofs.Floats.{binary64, fits, passes, round, of_bits, dec}
use Rattle.unit.specs.Unit.{angle_of}
use Rattle.unit.proofs.Turns.{unturned}
use Rattle.unit.proofs.Angle.unwound.Goals as goal

pub returns-then-degrees-2 : goal.returns-then-degrees-2
unfolding dec round of_bits
returns-then-degrees-2 c =
    let t = c.before.before in
    let x = t.args.self.degrees in
    let f : fits binary64 x ≡ true = search rules in
    ap angle_of (unturned x (passes (fits binary64 x) f) c.if-degrees.true c.if-degrees-2.true)

pub returns : goal.returns
unfolding dec round of_bits
returns c = cc
