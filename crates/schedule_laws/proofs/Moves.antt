-- If a school's minutes are later and nothing else changes, each time is later by exactly their seconds, and none of the nine is earlier.
-- Assumes nothing.
use Rattle.std.specs.Prelude.{Option}
use Rattle.prelude.proofs.Logic.{◌≡◌, sym, ap, subst, ◌∙◌, ◌^◌, arith, lit≤, ℤ, pos, ◌+ℤ◌, ◌-ℤ◌, ◌*ℤ◌, +ℤ_assoc}
use Rattle.integers.proofs.Integers.{Near, ◌≼◌, same, sum, difference, times, wider, natural_between, sum_between, difference_between}
use Rattle.integers.proofs.Integers.{to_le}
use Rattle.calendar.specs.{Answers.tomorrow_of, declared.dates.Date.Date}
use Rattle.models.specs.declared.{adjustments.TimeAdjustment.TimeAdjustment, parameters.Parameters.Parameters, rules.Season.Season}
use Rattle.models.specs.declared.{prayer.Prayer.Prayer, rounding.Rounding.Rounding}
use Rattle.models.specs.declared.prayer.Prayer.TheVariants.{Fajr, Sunrise, Dhuhr, Asr, Maghrib, Isha}
use Rattle.models.specs.{declared.rounding.Rounding.TheVariants.Nearest, Settings.time_adjustments_of}
use Rattle.whole_minutes.specs.Times.{rounded_of, adjusted_of}
use Rattle.whole_minutes.proofs.TimesLaws.{rounded_adjusted, rounded_mono, adjusted_between}
use Rattle.night_portions.specs.Portions.{middle_of, last_third_of}
use Rattle.night_portions.proofs.{Steady.Small, PortionsLaws.middle_later, PortionsLaws.last_third_later}
use Rattle.solar.specs.declared.{times.SolarTime.SolarTime}
use Rattle.schedule.specs.declared.{hours.ThreeSuns.ThreeSuns, hours.RowHours.RowHours, prayer_times.PrayerTimes.PrayerTimes}
use Rattle.schedule.proofs.Schedule.{start_of, final_of, fajr_tomorrow_of, middle_of_the_night_of, qiyam_of, from_midnight_of, started_of}
use Rattle.schedule.proofs.Schedule.{night_of, next_day_of, or_of, before_sunrise_of, short_near, unadjusted_fajr_of, after_sunset_of, isha_bound_of}
use Rattle.schedule.proofs.Schedule.{bounded_isha_of, unadjusted_isha_of}
use Rattle.schedule_laws.specs.Later.{with_minutes, NoneEarlier, later_by, ExactlyLater}
use Rattle.schedule_laws.proofs.Spans.{fajr_between, final_between}
use Rattle.schedule_laws.proofs.SunSpans.{Days, SunHour, Sun, Three, night_days, seventh_days}

-- ---- a time adjusted by two numbers of minutes
adjusted_again : (t a b : ℤ) → adjusted_of t b ≡ adjusted_of t a +ℤ (b -ℤ a) *ℤ pos 60
unfolding adjusted_of
adjusted_again t a b =
    let d = difference b a in
    let x = times a 60 in
    let y = times b 60 in
    let z = times (b -ℤ a) 60 in
    let u = sum t (a *ℤ pos 60) in
    let v = sum t (b *ℤ pos 60) in
    let w = sum (t +ℤ a *ℤ pos 60) ((b -ℤ a) *ℤ pos 60) in
    same (t +ℤ b *ℤ pos 60) (t +ℤ a *ℤ pos 60 +ℤ (b -ℤ a) *ℤ pos 60) (omega (arith, d.0, d.1))

rounded_again : (r : Rounding) (t a b : ℤ) → rounded_of r (adjusted_of t b) ≡ rounded_of r (adjusted_of t a) +ℤ (b -ℤ a) *ℤ pos 60
rounded_again r t a b =
    rounded_adjusted r t b ∙ adjusted_again (rounded_of r t) a b ∙ ap (λ (x : ℤ). x +ℤ (b -ℤ a) *ℤ pos 60) (sym (rounded_adjusted r t a))

-- the same with 0h of the date added to both
moved_on : (start x y d : ℤ) → y ≡ x +ℤ d → start +ℤ y ≡ start +ℤ x +ℤ d
moved_on start x y d e = ap (λ (z : ℤ). start +ℤ z) e ∙ sym (+ℤ_assoc start x d)

later_on : (start x y : ℤ) → x ≼ y → start +ℤ x ≼ start +ℤ y
later_on start x y h = let s = sum start x in let r = sum start y in omega arith

-- a time with no fewer minutes is not earlier
not_earlier : (x y a b : ℤ) → a ≼ b → y ≡ x +ℤ (b -ℤ a) *ℤ pos 60 → x ≼ y
not_earlier x y a b h e =
    let d = difference b a in
    let z = times (b -ℤ a) 60 in
    let s = sum x ((b -ℤ a) *ℤ pos 60) in
    subst (λ (w : ℤ). x ≼ w) (sym e) (omega (arith, d.0, d.1))

-- ---- for all parameters, maghrib and tomorrow's Fajr are near 0h, so every night is short enough
before_near : (p : Parameters) (season : Season) (date : Date) (night : ℤ) → Near (2 ^ 31) (before_sunrise_of p season date night)
unfolding before_sunrise_of
before_near p season date night = short_near _

module _ (p : Parameters) (held : (prayer : Prayer) → Near (2 ^ 32) (time_adjustments_of p prayer)) where
  maghrib-near : {x : ℤ} → Days 1 2 x → Near (2 ^ 39) (final_of p Maghrib x)
  maghrib-near h = wider (final_between p Maghrib h (held Maghrib)) (lit≤ tt) (lit≤ tt)

  tomorrow-near : (season : Season) (date : Date) (tomorrow after : SolarTime) (hour : Option ℤ) → Sun tomorrow → Sun after → SunHour hour
      → Near (2 ^ 39) (fajr_tomorrow_of p season date tomorrow after hour)
  unfolding fajr_tomorrow_of
  tomorrow-near season date tomorrow after hour a b h =
      let seventh = seventh_days (night_of tomorrow after) (night_days tomorrow after a b) in
      let fajr = fajr_between p season (tomorrow_of date) tomorrow after hour h a.sunrise (wider seventh (lit≤ tt) (lit≤ tt))
      (before_near p season (tomorrow_of date) (night_of tomorrow after)) in
      wider (sum_between (adjusted_between fajr (held Fajr)) (natural_between 86400)) (lit≤ tt) (lit≤ tt)

short_night : {m f : ℤ} → Near (2 ^ 39) m → Near (2 ^ 39) f → Small (f -ℤ m)
short_night h k = wider (difference_between k h) (lit≤ tt) (lit≤ tt)

-- ---- the middle of the night and its last third
module _ (m f m' f' : ℤ) (later : m ≼ m') (later_fajr : f ≼ f') (h : Small (f -ℤ m)) (h' : Small (f' -ℤ m')) where
  middle-moved : middle_of_the_night_of m f ≼ middle_of_the_night_of m' f'
  unfolding middle_of_the_night_of
  middle-moved = rounded_mono Nearest (m +ℤ middle_of (f -ℤ m)) (m' +ℤ middle_of (f' -ℤ m')) (middle_later m f m' f' later later_fajr h h')

  qiyam-moved : qiyam_of m f ≼ qiyam_of m' f'
  unfolding qiyam_of
  qiyam-moved =
      rounded_mono Nearest (m +ℤ last_third_of (f -ℤ m)) (m' +ℤ last_third_of (f' -ℤ m')) (last_third_later m f m' f' later later_fajr h h')

-- ---- each time, if only the minutes change
module _ (p : Parameters) (minutes : TimeAdjustment) where
  abbrev pub q : Parameters
  q = with_minutes p minutes

  final-moved : (prayer : Prayer) (x : ℤ) → final_of q prayer x ≡ final_of p prayer x +ℤ later_by p q prayer
  unfolding final_of
  final-moved prayer x = rounded_again p.rounding x (time_adjustments_of p prayer) (time_adjustments_of q prayer)

  tomorrow-moved : (season : Season) (date : Date) (tomorrow after : SolarTime) (hour : Option ℤ)
      → fajr_tomorrow_of q season date tomorrow after hour ≡ fajr_tomorrow_of p season date tomorrow after hour +ℤ later_by p q Fajr
  unfolding fajr_tomorrow_of unadjusted_fajr_of before_sunrise_of
  tomorrow-moved season date tomorrow after hour =
      let u = unadjusted_fajr_of p season (tomorrow_of date) tomorrow after hour in
      let x = adjusted_of u (time_adjustments_of p Fajr) in
      let d = later_by p q Fajr in
      let e = adjusted_again u (time_adjustments_of p Fajr) (time_adjustments_of q Fajr) in
      let a = sum x d in
      let b = sum (x +ℤ d) (pos 86400) in
      let c = sum x (pos 86400) in
      let f = sum (x +ℤ pos 86400) d in
      ap next_day_of e ∙ same (x +ℤ d +ℤ pos 86400) (x +ℤ pos 86400 +ℤ d) (omega arith)

  -- ---- the day
  module _ (season : Season) (date : Date) (suns : ThreeSuns) (h : RowHours) where
    abbrev pub first : PrayerTimes
    first = started_of (start_of date) (from_midnight_of p season date suns h)

    abbrev pub second : PrayerTimes
    second = started_of (start_of date) (from_midnight_of q season date suns h)

    abbrev sun : SolarTime
    sun = suns.today

    -- Fajr and Isha before their minutes do not depend on them
    pub exactly : ExactlyLater p q first second
    unfolding from_midnight_of started_of unadjusted_fajr_of before_sunrise_of unadjusted_isha_of bounded_isha_of isha_bound_of after_sunset_of
    exactly =
        let start = start_of date in
        record {
          fajr = moved_on start _ _ (later_by p q Fajr) (final-moved Fajr (unadjusted_fajr_of p season date sun suns.tomorrow h.fajr));
          sunrise = moved_on start _ _ (later_by p q Sunrise) (final-moved Sunrise sun.sunrise);
          dhuhr = moved_on start _ _ (later_by p q Dhuhr) (final-moved Dhuhr sun.transit);
          asr = moved_on start _ _ (later_by p q Asr) (final-moved Asr (or_of h.asr sun.transit));
          maghrib = moved_on start _ _ (later_by p q Maghrib) (final-moved Maghrib sun.sunset);
          isha = moved_on start _ _ (later_by p q Isha) (final-moved Isha (unadjusted_isha_of p season date sun suns.tomorrow h.isha));
          fajr_tomorrow =
              moved_on start _ _ (later_by p q Fajr) (tomorrow-moved season date suns.tomorrow suns.after h.fajr_tomorrow);
        }

    module _ (more : (prayer : Prayer) → time_adjustments_of p prayer ≼ time_adjustments_of q prayer)
        (held : (prayer : Prayer) → Near (2 ^ 32) (time_adjustments_of p prayer))
        (held_q : (prayer : Prayer) → Near (2 ^ 32) (time_adjustments_of q prayer))
        (three : Three suns) (placed : SunHour h.fajr_tomorrow) where
      by-more : (prayer : Prayer) (x y : ℤ) → y ≡ x +ℤ later_by p q prayer → x ≼ y
      by-more prayer x y e = not_earlier x y (time_adjustments_of p prayer) (time_adjustments_of q prayer) (more prayer) e

      short : (r : Parameters) → ((prayer : Prayer) → Near (2 ^ 32) (time_adjustments_of r prayer))
          → Small (fajr_tomorrow_of r season date suns.tomorrow suns.after h.fajr_tomorrow -ℤ final_of r Maghrib sun.sunset)
      short r held = short_night (maghrib-near r held three.today.sunset)
          (tomorrow-near r held season date suns.tomorrow suns.after h.fajr_tomorrow three.tomorrow three.after placed)

      pub none-earlier : NoneEarlier first second
      unfolding from_midnight_of started_of
      none-earlier =
          let start = start_of date in
          let m = final_of p Maghrib sun.sunset in
          let m' = final_of q Maghrib sun.sunset in
          let f = fajr_tomorrow_of p season date suns.tomorrow suns.after h.fajr_tomorrow in
          let f' = fajr_tomorrow_of q season date suns.tomorrow suns.after h.fajr_tomorrow in
          let later = by-more Maghrib m m' (final-moved Maghrib sun.sunset) in
          let later_fajr = by-more Fajr f f' (tomorrow-moved season date suns.tomorrow suns.after h.fajr_tomorrow) in
          record {
            fajr = to_le first.fajr second.fajr (by-more Fajr first.fajr second.fajr exactly.fajr);
            sunrise = to_le first.sunrise second.sunrise (by-more Sunrise first.sunrise second.sunrise exactly.sunrise);
            dhuhr = to_le first.dhuhr second.dhuhr (by-more Dhuhr first.dhuhr second.dhuhr exactly.dhuhr);
            asr = to_le first.asr second.asr (by-more Asr first.asr second.asr exactly.asr);
            maghrib = to_le first.maghrib second.maghrib (by-more Maghrib first.maghrib second.maghrib exactly.maghrib);
            isha = to_le first.isha second.isha (by-more Isha first.isha second.isha exactly.isha);
            middle_of_the_night = to_le first.middle_of_the_night second.middle_of_the_night (later_on start (middle_of_the_night_of
                m f) (middle_of_the_night_of m' f') (middle-moved m f m' f' later later_fajr (short p held) (short q held_q)));
            qiyam = to_le first.qiyam second.qiyam
                (later_on start (qiyam_of m f) (qiyam_of m' f') (qiyam-moved m f m' f' later later_fajr (short p held) (short q held_q)));
            fajr_tomorrow = to_le first.fajr_tomorrow second.fajr_tomorrow
                (by-more Fajr first.fajr_tomorrow second.fajr_tomorrow exactly.fajr_tomorrow);
          }
