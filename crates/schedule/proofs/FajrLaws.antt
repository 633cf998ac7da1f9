-- Fajr by itself is the Fajr of the nine. Assumes nothing.
use Rattle.std.specs.Prelude.{Err, Ok, Result, Some}
use Rattle.refusals.specs.declared.Refusal.{Refusal}
use Rattle.schedule.specs.declared.hours.ThreeSuns.{ThreeSuns}
use Rattle.prelude.proofs.Logic.{◌≡◌, refl, sym, ap, arith, ℤ, ◌+ℤ◌, ◌-ℤ◌}
use Rattle.calendar.specs.declared.dates.Date.{Date}
use Rattle.integers.proofs.Integers.{same, sum, difference}
use Rattle.models.specs.declared.parameters.Parameters.{Parameters}
use Rattle.models.specs.declared.prayer.Prayer.TheVariants.{Fajr}
use Rattle.models.specs.declared.rules.Season.{Season}
use Rattle.schedule.specs.declared.hours.RowHours.{RowHours}
use Rattle.schedule.specs.Fajr.{fajr_in, fajr_alone_of}
use Rattle.schedule.specs.Times.{start_of, final_of, from_midnight_of, started_of, started_in, since_from, since_of, worked_of}
use Rattle.schedule.specs.Twilight.{unadjusted_fajr_of}

-- an addend that is subtracted again
back_off : (a z : ℤ) → (a +ℤ z) -ℤ a ≡ z
back_off a z =
    let s = sum a z in
    let d = difference (a +ℤ z) a in
    same ((a +ℤ z) -ℤ a) z (omega (arith, s.balance, d.0.balance, d.1.over, d.1.under))

module _ (h : RowHours) (date : Date) (season : Season) (p : Parameters) where
  by-suns : (suns : Result ThreeSuns Refusal) → fajr_alone_of suns date season p h.fajr ≡ fajr_in date (started_in date (since_from suns h date season p))
  unfolding fajr_alone_of fajr_in started_in since_from started_of from_midnight_of
  by-suns (Err r) = refl
  by-suns (Ok suns) =
      ap Some (sym (back_off (start_of date) (final_of p Fajr (unadjusted_fajr_of p season date suns.today suns.tomorrow h.fajr))))

  pub fajr-alone : fajr_alone_of h.suns date season p h.fajr ≡ fajr_in date (worked_of h date season p)
  unfolding since_of
  fajr-alone = by-suns h.suns
