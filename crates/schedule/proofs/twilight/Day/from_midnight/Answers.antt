-- Each of the nine times is the definition's. It is within 2 ^ 43 seconds of 0h, so the date's start can be added.
use Rattle.prelude.proofs.Logic.{ap, ◌∙◌, lit≤, rules, w32, SFits}
use Rattle.integers.proofs.Integers.{read, held_as, asked}
use Rattle.models.specs.declared.prayer.Prayer.TheVariants.{Fajr, Sunrise, Dhuhr, Asr, Maghrib, Isha}
use Rattle.schedule.proofs.Schedule.{final_of, middle_of_the_night_of, qiyam_of, from_midnight_of, or_of, both, of_near}
use Rattle.schedule.proofs.twilight.Day.from_midnight.Goals as goal

pub returns : goal.returns
unfolding from_midnight_of final_of
returns c =
    let transit : SFits w32 c.args.suns.today.transit = search rules in
    let sunrise : SFits w32 c.args.suns.today.sunrise = search rules in
    let sunset : SFits w32 c.args.suns.today.sunset = search rules in
    let p = c.args.self.parameters in
    let fajr = held_as (of_near c.final_time.ensures (lit≤ tt)) (ap (final_of p Fajr) c.unadjusted_fajr-fajr.ensures) in
    let rise = held_as (of_near c.final_time-2.ensures (lit≤ tt)) (ap (final_of p Sunrise) (c.from-sunrise.ensures ∙ read w32 _ sunrise)) in
    let dhuhr = held_as (of_near c.final_time-3.ensures (lit≤ tt)) (ap (final_of p Dhuhr) (c.from-transit.ensures ∙ read w32 _ transit)) in
    let asr = held_as (of_near c.final_time-4.ensures (lit≤ tt))
    (ap (final_of p Asr) (c.unless-asr.ensures ∙ ap (or_of c.args.hours.asr) (c.from-transit.ensures ∙ read w32 _ transit))) in
    let maghrib = held_as (of_near c.final_time-maghrib.ensures (lit≤ tt)) (ap (final_of p Maghrib) (c.from-sunset.ensures ∙ read w32 _ sunset)) in
    let isha = held_as (of_near c.final_time-5.ensures (lit≤ tt)) (ap (final_of p Isha) c.unadjusted_isha-isha.ensures) in
    let next = of_near c.next_fajr-fajr_tomorrow.ensures (lit≤ tt) in
    let middle = held_as (of_near c.calculate_qiyam-night.ensures.0 (lit≤ tt)) (both middle_of_the_night_of maghrib.is next.is) in
    let qiyam = held_as (of_near c.calculate_qiyam-night.ensures.1 (lit≤ tt)) (both qiyam_of maghrib.is next.is) in (
      simp (fajr.is, rise.is, dhuhr.is, asr.is, maghrib.is, isha.is, middle.is, qiyam.is, next.is),
      record {
        fajr = asked fajr (lit≤ tt);
        sunrise = asked rise (lit≤ tt);
        dhuhr = asked dhuhr (lit≤ tt);
        asr = asked asr (lit≤ tt);
        maghrib = asked maghrib (lit≤ tt);
        isha = asked isha (lit≤ tt);
        middle_of_the_night = asked middle (lit≤ tt);
        qiyam = asked qiyam (lit≤ tt);
        fajr_tomorrow = asked next (lit≤ tt);
      },
    )
