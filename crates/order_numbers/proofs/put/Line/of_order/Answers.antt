-- The five groups follow one another.
use Rattle.order_numbers.specs.Values.{start_fields, setting_fields, time_fields, rule_fields, ramadan_fields, encode}
use Rattle.order_numbers.proofs.PutLaws.{groups}
use Rattle.order_numbers.proofs.put.Line.of_order.Goals as goal

pub returns-clause-line_after : goal.returns-clause-line_after
unfolding encode
returns-clause-line_after c =
    let n = c.args.n in
    simp (
      c.ramadan.ensures.line_after,
      c.rules.ensures.line_after,
      c.times.ensures.line_after,
      c.settings.ensures.line_after,
      c.start.ensures.line_after,
      c.empty-line.ensures.line_after,
    ) (groups (start_fields n.date n.rows c.args.town.now) (setting_fields n) (time_fields n) (rule_fields n.choices)
    (ramadan_fields n.choices))
