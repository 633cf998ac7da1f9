use Rattle.prelude.proofs.Logic.{◌∙◌, ap, sym}
use Rattle.calendar.specs.declared.dates.Date.{Date}
use Rattle.ops.specs.Coordinates.{position_of}
use Rattle.ops.specs.Shared.{place_of}
use Rattle.schedule.proofs.RowSunsLaws.{back_to}
use Rattle.schedule.proofs.rolling.place_before_tomorrow.Goals as goal

pub returns-then-date-lt-GREATEST_YEAR : goal.returns-then-date-lt-GREATEST_YEAR
returns-then-date-lt-GREATEST_YEAR c =
    c.requires ∙ ap (λ (d : Date). place_of (position_of d)) (sym (back_to c.args.date c.if-date-lt-GREATEST_YEAR.true))
