use Rattle.prelude.proofs.Logic.{◌≡◌, ap, ◌∙◌, Bool, ℤ, rules, w32, SFits, to_z, of_z, to_z-of_z}
use Rattle.order.specs.Ranges.{minute_fits, minutes_fit}
use Rattle.order.proofs.ranges.minutes_fit.Goals as goal

-- a minute is passed on as it is read back from its bits
told : (m : ℤ) (r : Bool) → SFits w32 m → r ≡ minute_fits (to_z w32 (of_z w32 m)) → r ≡ minute_fits m
told m r f e = e ∙ ap minute_fits (to_z-of_z f)

pub returns : goal.returns
unfolding minutes_fit
returns c =
    let m = c.args.m in
    let f1 : SFits w32 m.fajr = search rules in
    let f2 : SFits w32 m.sunrise = search rules in
    let f3 : SFits w32 m.dhuhr = search rules in
    let f4 : SFits w32 m.asr = search rules in
    let f5 : SFits w32 m.maghrib = search rules in
    let f6 : SFits w32 m.isha = search rules in
    simp (
      told m.fajr _ f1 c.minute_fits.ensures,
      told m.sunrise _ f2 c.minute_fits-2.ensures,
      told m.dhuhr _ f3 c.minute_fits-3.ensures,
      told m.asr _ f4 c.minute_fits-4.ensures,
      told m.maghrib _ f5 c.minute_fits-5.ensures,
      told m.isha _ f6 c.minute_fits-6.ensures,
    )
