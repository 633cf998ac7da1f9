-- In these years the next Julian Day is 1.0 more (`julian_tomorrow`); a date whose tomorrow has another day exists.
use Rattle.prelude.proofs.Logic.{sym, ap, ◌∙◌}
use Rattle.float64.proofs.Floats.{Float, ◌+ᶠ◌, round, of_bits, dec}
use Rattle.calendar.specs.declared.dates.Date.{Date}
use Rattle.julian.proofs.JulianLaws.{julian_tomorrow}
use Rattle.schedule.proofs.RowSunsLaws.{moves}
use Rattle.schedule.proofs.rolling.julian_day_after.Goals as goal

pub returns-then-date-le-ROLLS_TO : goal.returns-then-date-le-ROLLS_TO
unfolding dec round of_bits
returns-then-date-le-ROLLS_TO c =
    let date = c.args.date in
    let there = moves date (λ e. c.if-date-tomorrow.true (e ∙ ap (λ (d : Date). d.day) (sym c.requires.0))) in
    ap (λ (day : Float). day +ᶠ dec 1 0) c.requires.1 ∙ sym (julian_tomorrow date there c.if-date-ge-ROLLS_FROM.true c.if-date-le-ROLLS_TO.true)
