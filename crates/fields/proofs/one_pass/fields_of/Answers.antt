-- The pass needs an order of at most 1,024 bytes.
use Rattle.std.specs.Prelude.{Err}
use Rattle.prelude.proofs.Logic.{◌∙◌, ap, rules}
use Rattle.fields.proofs.Collecting.{checked_not, too_long}
use Rattle.fields.proofs.one_pass.fields_of.Goals as goal

pub returns-then-order-gt-LONGEST_ORDER : goal.returns-then-order-gt-LONGEST_ORDER
returns-then-order-gt-LONGEST_ORDER c =
    let s = c.args.order.now in
    ap Err c.new.ensures ∙ checked_not s 1 0 (too_long s c.if-order-gt-LONGEST_ORDER.true) (λ e. search rules)
