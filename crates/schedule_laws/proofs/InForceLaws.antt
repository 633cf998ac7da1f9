-- The prayer in force if no time is earlier and the instant is not after: a prayer that is due under the second is due under the first.
-- Assumes nothing.
use Rattle.std.specs.Prelude.{Option}
use Rattle.prelude.proofs.Logic.{◌≡◌, ap, Bool, true, inl, inr, ⊎_elim, ℕ, zero, suc, ◌+◌, ◌*◌, ◌≤◌, ◌<◌, arith, eqb, eqb→eq, lit≤}
use Rattle.prelude.proofs.Logic.{cases, arms, eq-eqb, ℤ, pos, negsuc, ◌-ℤ◌, ◌*ℤ◌, lt_z, eqb-true}
use Rattle.integers.proofs.Integers.{P, N, same, sum, difference, times, le_yes, lt_yes, lt_no, to_le, ◌≼◌}
use Rattle.prelude.proofs.Computed.{at}
use Rattle.models.specs.declared.prayer.Prayer.{Prayer}
use Rattle.models.specs.declared.prayer.Prayer.TheVariants.{Fajr, Sunrise, Dhuhr, Asr, Maghrib, Isha, Qiyam, FajrTomorrow}
use Rattle.models.specs.Numbers.{prayer_number_of, prayer_of}
use Rattle.schedule.specs.declared.{in_force.Instant.Instant, prayer_times.PrayerTimes.PrayerTimes}
use Rattle.schedule.specs.InForce.{time_of, in_second, nanoseconds_of, NotAfter, ahead_of, last_of, current_time_of, current_number_of}
use Rattle.schedule_laws.specs.Later.{NoneEarlier, NotAfterByNanoseconds}

-- ---- "not after", by parts and by nanoseconds
parts : (i : Instant) → P (nanoseconds_of i) + in_second * N i.seconds ≡ N (nanoseconds_of i) + in_second * P i.seconds + i.nanoseconds
unfolding nanoseconds_of
parts i = let a = times i.seconds in_second in let b = sum (i.seconds *ℤ pos in_second) (pos i.nanoseconds) in omega arith

module _ (j i : Instant) where
  pub to-nanoseconds : j.nanoseconds < in_second → NotAfter j i → nanoseconds_of j ≼ nanoseconds_of i
  to-nanoseconds h o =
      ⊎_elim (λ (l : lt_z j.seconds i.seconds ≡ true). omega (arith, parts i, parts j, lt_yes j.seconds i.seconds l))
      (λ (l : (j.seconds ≡ i.seconds) × (j.nanoseconds ≤ i.nanoseconds)).
      omega (arith, parts i, parts j, ap P l.0, ap N l.0, l.1))
      o

  from-nanoseconds : i.nanoseconds < in_second → nanoseconds_of j ≼ nanoseconds_of i → NotAfter j i
  from-nanoseconds h o =
      cases (lt_z j.seconds i.seconds) (λ p. inl p)
      (λ p. let l = lt_no j.seconds i.seconds p in
      inr (same j.seconds i.seconds (omega (arith, parts i, parts j)), omega (arith, parts i, parts j)))

pub not_after_by_nanoseconds : NotAfterByNanoseconds
not_after_by_nanoseconds j i h k = (
  λ o. to_le (nanoseconds_of j) (nanoseconds_of i) (to-nanoseconds j i h o),
  λ o. from-nanoseconds j i k (le_yes (nanoseconds_of j) (nanoseconds_of i) o),
)

-- ---- the whole seconds ahead
positive_grows : (x y : ℤ) → x ≼ y → P x ≤ P y
positive_grows (pos a) (pos b) h = omega arith
positive_grows (pos a) (negsuc b) h = omega arith
positive_grows (negsuc a) y h = omega arith

ahead_grows : (s t : ℤ) (i j : Instant) → s ≼ t → nanoseconds_of j ≼ nanoseconds_of i → ahead_of s i ≤ ahead_of t j
unfolding ahead_of
ahead_grows s t i j h k =
    let a = times s 1000000000 in
    let b = times t 1000000000 in
    let c = difference (s *ℤ pos in_second) (nanoseconds_of i) in
    let d = difference (t *ℤ pos in_second) (nanoseconds_of j) in
    let g = positive_grows (s *ℤ pos in_second -ℤ nanoseconds_of i) (t *ℤ pos in_second -ℤ nanoseconds_of j)
    (omega (arith, c.0, c.1, d.0, d.1)) in
    omega (arith, g)

-- ---- the list
time_grows : (t u : PrayerTimes) → NoneEarlier t u → (prayer : Prayer) → time_of t prayer ≼ time_of u prayer
unfolding time_of
time_grows t u h Fajr = le_yes t.fajr u.fajr h.fajr
time_grows t u h Sunrise = le_yes t.sunrise u.sunrise h.sunrise
time_grows t u h Dhuhr = le_yes t.dhuhr u.dhuhr h.dhuhr
time_grows t u h Asr = le_yes t.asr u.asr h.asr
time_grows t u h Maghrib = le_yes t.maghrib u.maghrib h.maghrib
time_grows t u h Isha = le_yes t.isha u.isha h.isha
time_grows t u h Qiyam = le_yes t.qiyam u.qiyam h.qiyam
time_grows t u h FajrTomorrow = le_yes t.fajr_tomorrow u.fajr_tomorrow h.fajr_tomorrow

place_test : ℕ → Bool
place_test n = eqb (prayer_number_of (prayer_of (suc n))) (suc n)

place_is : (n : ℕ) → suc n ≤ 8 → prayer_number_of (prayer_of (suc n)) ≡ suc n
unfolding place_test prayer_of
place_is n h = eqb→eq _ _ (at place_test 8 tt n h)

-- the last due prayer among the first n has a number of at most n
first_places : (t : PrayerTimes) (i : Instant) (n : ℕ) → n ≤ 8 → current_number_of (last_of t i n) ≤ n
unfolding last_of current_number_of
first_places t i zero h = lit≤ tt
first_places t i (suc n) h =
    let before = first_places t i n (omega arith) in
    arms (λ (x : Option Prayer). current_number_of x ≤ suc n) (eqb (ahead_of (time_of t (prayer_of (suc n))) i) 0) (λ e. omega (arith, place_is n h))
    (λ e. omega arith)

module _ (t u : PrayerTimes) (i j : Instant) (h : NoneEarlier t u) (k : nanoseconds_of j ≼ nanoseconds_of i) where
  places : (n : ℕ) → n ≤ 8 → current_number_of (last_of u j n) ≤ current_number_of (last_of t i n)
  unfolding last_of current_number_of
  places zero l = lit≤ tt
  places (suc n) l =
      let before = places n (omega arith) in
      let s = time_of t (prayer_of (suc n)) in
      let z = time_of u (prayer_of (suc n)) in
      cases (eqb (ahead_of z j) 0)
      (λ p. let g = ahead_grows s z i j (time_grows t u h (prayer_of (suc n))) k in
      let due = eqb-true (ahead_of z j) 0 p in
      simp (p, eq-eqb (ahead_of s i) 0 (omega arith)) (omega arith))
      (λ p. cases (eqb (ahead_of s i) 0) (λ q. simp (p, q) (omega (arith, first_places u j n (omega arith), place_is n l)))
      (λ q. simp (p, q) before))

pub in_force_no_later : (t u : PrayerTimes) (i j : Instant) → NoneEarlier t u → nanoseconds_of j ≼ nanoseconds_of i
    → current_number_of (current_time_of u j) ≤ current_number_of (current_time_of t i)
in_force_no_later t u i j h k = places t u i j h k 8 (lit≤ tt)
