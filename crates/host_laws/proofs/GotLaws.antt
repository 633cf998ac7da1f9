-- Demand 3 for what a host gets: each result is one of a call's two cases, and order_laws proves it for those. Assumes nothing.
use Rattle.std.specs.Prelude.{Err, Ok, Option, Result}
use Rattle.models.specs.declared.prayer.Prayer.{Prayer}
use Rattle.prelude.proofs.Logic.{◌≡◌, refl, sym, ◌∙◌, true, List, ℕ, ◌≤◌, arith, eqb-false}
use Rattle.days.specs.Calls.{work_day_of, instant_fits, prayer_at_of}
use Rattle.katchidul.specs.Exports.{day_answer_of, prayer_answer_of, day_got, prayer_got}
use Rattle.order_laws.specs.Minutes.{LaterOrder, MovedRow}
use Rattle.order_laws.proofs.{MinutesLaws.later_orders_move_their_rows, RulesInOrderLaws.day_refused}
use Rattle.order.specs.Reading.{reading_of}
use Rattle.refusals.specs.declared.Refusal.{Refusal}
use Rattle.schedule.specs.{InForce.NotAfter, declared.in_force.Instant.Instant, declared.prayer_times.PrayerTimes.PrayerTimes}
use Rattle.schedule_laws.specs.Later.{NoneEarlier, ExactlyLater}
use Rattle.host_laws.specs.Got.{LaterOrdersMoveForHost}

module _ (a b : List ℕ) (orders : LaterOrder a b) (row : ℕ) where
  moved : MovedRow a b orders row
  moved = later_orders_move_their_rows a b orders row

  -- ---- a day
  -- a refused day has a number
  numbered : (r : Refusal) → work_day_of a row ≡ Err r → r.number ≡ 0 → ⊥
  unfolding work_day_of
  numbered r e z = eqb-false r.number 0 (day_refused a row r (reading_of a) refl e) z

  refused-same : (w v : Result PrayerTimes Refusal) → work_day_of a row ≡ w → work_day_of b row ≡ v → (day_got a row).refusal ≡ (day_got b row).refusal
  unfolding day_answer_of
  refused-same (Ok t) (Ok u) e f = rw (e, f)
  refused-same (Ok t) (Err r) e f =
      let both : Ok t ≡ Err r = sym e ∙ moved.day.refused_too r f in
      let z : ◌≡◌ {A = ℕ} 0 1 = cc in absurd (omega arith)
  refused-same (Err r) v e f = rw (e, moved.day.refused r e)

  -- the times of both orders, if the first has times
  record Got : Type 0 where
    t : PrayerTimes
    u : PrayerTimes
    at : work_day_of a row ≡ Ok t
    bu : work_day_of b row ≡ Ok u

  got : (day_got a row).refusal.number ≡ 0 → (w v : Result PrayerTimes Refusal) → work_day_of a row ≡ w → work_day_of b row ≡ v → Got
  unfolding day_answer_of
  got n (Ok t) (Ok u) e f = record { t = t; u = u; at = e; bu = f }
  got n (Ok t) (Err r) e f =
      let both : Ok t ≡ Err r = sym e ∙ moved.day.refused_too r f in
      let z : ◌≡◌ {A = ℕ} 0 1 = cc in absurd (omega arith)
  got n (Err r) v e f = absurd (numbered r e (rw e at n))

  times-got : (P : PrayerTimes → PrayerTimes → Type 0) → (g : Got) → P g.t g.u → P (day_got a row).times (day_got b row).times
  unfolding day_answer_of
  times-got P g h = rw (g.at, g.bu) h

  -- ---- an instant
  module _ (t u : Instant) (ht : instant_fits t ≡ true) (hu : instant_fits u ≡ true) where
    in-force : NotAfter u t → (p q : Result (Option Prayer) Refusal) → prayer_at_of a row t ≡ p → prayer_at_of b row u ≡ q
        → (prayer_got b row u).prayer ≤ (prayer_got a row t).prayer
    unfolding prayer_answer_of
    in-force after (Ok x) (Ok y) e f = rw (e, f) (moved.in_force t u ht hu after x y e f)
    in-force after (Err r) (Ok y) e f =
        let both : Ok y ≡ Err r = sym f ∙ moved.in_force_refused t u ht hu r e in
        let z : ◌≡◌ {A = ℕ} 0 1 = cc in absurd (omega arith)
    in-force after p (Err r) e f = rw f (omega arith)

    refused_alike : (p q : Result (Option Prayer) Refusal) → prayer_at_of a row t ≡ p → prayer_at_of b row u ≡ q
        → (prayer_got a row t).refusal ≡ (prayer_got b row u).refusal
    unfolding prayer_answer_of
    refused_alike (Ok x) (Ok y) e f = rw (e, f)
    refused_alike (Ok x) (Err r) e f =
        let both : Ok x ≡ Err r = sym e ∙ moved.in_force_refused_too t u ht hu r f in
        let z : ◌≡◌ {A = ℕ} 0 1 = cc in absurd (omega arith)
    refused_alike (Err r) q e f = rw (e, moved.in_force_refused t u ht hu r e)

pub later_orders_move_for_host : LaterOrdersMoveForHost
unfolding moved
later_orders_move_for_host a b orders row =
    let p = orders.first.setting.parameters in
    let q = orders.second.setting.parameters in
    let m = later_orders_move_their_rows a b orders row in
    record {
      refused = refused-same a b orders row (work_day_of a row) (work_day_of b row) refl refl;
      none_earlier = λ n.
          let g = got a b orders row n (work_day_of a row) (work_day_of b row) refl refl in
          times-got a b orders row NoneEarlier g (m.day.none_earlier g.t g.u g.at g.bu);
      exactly_later = λ n.
          let g = got a b orders row n (work_day_of a row) (work_day_of b row) refl refl in
          times-got a b orders row (ExactlyLater p q) g (m.day.exactly_later g.t g.u g.at g.bu);
      in_force = λ t u ht hu after. in-force a b orders row t u ht hu after (prayer_at_of a row t) (prayer_at_of b row u) refl refl;
      in_force_refused = λ t u ht hu. refused_alike a b orders row t u ht hu (prayer_at_of a row t) (prayer_at_of b row u) refl refl;
    }
