-- By season, rounded, for the Moonsighting Committee, else by the portion of the night; each is small.
use Rattle.prelude.proofs.Logic.{◌≡◌, sym, ap, ◌∙◌, lit≤, rules, w32, w64, SFits}
use Rattle.integers.proofs.Integers.{summands, read_back, read, held_by, held_as, asked}
use Rattle.models.specs.declared.rounding.Rounding.TheVariants.{Nearest}
use Rattle.whole_minutes.proofs.TimesLaws.{held_rounded}
use Rattle.schedule.proofs.Schedule.{after_sunset_of, isha_bound_of, short_of, of_near}
use Rattle.schedule.proofs.twilight.Day.isha_bound.Goals as goal

pub invariant_of-result : goal.invariant_of-result
invariant_of-result c =
    let k : read_back w64 c.rounded_minute.result ≡ c.rounded_minute.result = search rules in
    let rounded = held_by (k ∙ c.rounded_minute.ensures) (held_rounded Nearest (of_near c.moved.ensures (lit≤ tt)) (lit≤ tt)) in
    record { near = asked rounded (lit≤ tt) }

pub returns-then-by_season : goal.returns-then-by_season
unfolding isha_bound_of after_sunset_of
returns-then-by_season c =
    let f : SFits w32 c.args.today.sunset = search rules in
    let k : read_back w64 c.rounded_minute.result ≡ c.rounded_minute.result = search rules in
    let ke : read_back w64 c.evening_twilight_seconds-seconds.result ≡ c.evening_twilight_seconds-seconds.result = search rules in
    let e : short_of (read_back w64 c.evening_twilight_seconds-seconds.result) ≡ after_sunset_of c.args.self.parameters c.args.self.season
    c.args.self.date c.args.night =
    ap short_of (ke ∙ c.evening_twilight_seconds-seconds.ensures
    ∙ simp (c.ordinal.ensures, sym c.by_season.ensures, c.if-by_season.true)) in
    let x = held_as (of_near c.moved.ensures (lit≤ tt)) (summands (read w32 _ f) e) in
    (held_by (k ∙ c.rounded_minute.ensures) (held_rounded Nearest x (lit≤ tt))).is ∙ simp (sym c.by_season.ensures, c.if-by_season.true)
