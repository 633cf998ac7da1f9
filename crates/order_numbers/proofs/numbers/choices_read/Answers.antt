use Rattle.prelude.proofs.Logic.{◌≡◌, ◌∙◌, refl, Bool, true, false, rules, w32, SFits, to_z-of_z}
use Rattle.order_numbers.specs.Numbers.{set_number_of}
use Rattle.order_numbers.proofs.numbers.choices_read.Goals as goal

set : (b : Bool) → mir.Val.bool_byte b ≡ set_number_of b
unfolding set_number_of
set true = refl
set false = refl

pub returns : goal.returns
returns c =
    let o = c.args.order in
    let f : SFits w32 o.clock = search rules in
    let g : SFits w32 o.ramadan.shift = search rules in
    simp (to_z-of_z f, to_z-of_z g, c.from.ensures ∙ set o.ramadan.set, c.number-2.ensures, c.number.ensures)
