-- Tomorrow's Fajr from its own sun, a day later; the sum is small.
use Rattle.prelude.proofs.Logic.{ap, ◌∙◌, lit≤, ℤ}
use Rattle.integers.proofs.Held.{constant, held_sum, held_as, stored, promised}
use Rattle.calendar.specs.declared.dates.Date.{Date}
use Rattle.models.specs.declared.prayer.Prayer.TheVariants.{Fajr}
use Rattle.models.specs.Settings.{time_adjustments_of}
use Rattle.whole_minutes.specs.Times.{adjusted_of}
use Rattle.whole_minutes.proofs.TimesLaws.{none_stays}
use Rattle.schedule.proofs.Schedule.{fajr_tomorrow_of, next_day_of, unadjusted_fajr_of, of_near}
use Rattle.schedule.proofs.twilight.Day.next_fajr.Goals as goal

pub returns : goal.returns
unfolding fajr_tomorrow_of
returns c =
    let p = c.args.self.parameters in
    let fajr = c.unadjusted_fajr-fajr.ensures ∙ ap (λ (d : Date). unadjusted_fajr_of p c.args.self.season d c.args.tomorrow c.args.after c.args.hour)
    c.tomorrow.ensures in
    let adjusted = none_stays _ ∙ ap (λ (z : ℤ). adjusted_of z (time_adjustments_of p Fajr)) fajr in
    promised (held_as (stored (held_sum (of_near c.final_time.ensures (lit≤ tt)) (constant 86400)) (lit≤ tt)) (ap next_day_of adjusted))
    (lit≤ tt)
