-- Demand 3 to the last step: "compares what the calls answer". The calls of a host in C are `katchidul_work_day` and `katchidul_prayer_at`;
-- their contracts say that they return `day_got` and `prayer_got`. Proved in proofs/GotLaws from order_laws' LaterOrdersMoveTheirRows.
use Rattle.std.specs.Prelude.{ℕ, ◌≤◌, ◌≡◌, true, List}
use Rattle.days.specs.Calls.{instant_fits}
use Rattle.katchidul.specs.Exports.{day_got, prayer_got}
use Rattle.order_laws.specs.Minutes.{LaterOrder}
use Rattle.schedule.specs.InForce.{NotAfter}
use Rattle.schedule.specs.declared.in_force.Instant.{Instant}
use Rattle.schedule_laws.specs.Later.{NoneEarlier, ExactlyLater}

pub record MovedForHost (a b : List ℕ) (orders : LaterOrder a b) (row : ℕ) : Type 0 where
  -- "the same days are refused, with the same number and place"
  pub refused : (day_got a row).refusal ≡ (day_got b row).refusal
  -- "On every other day none of the second's nine times is earlier than the first's; each of its six daily times is later by exactly the
  -- difference of the two sums for it, and tomorrow's Fajr by exactly Fajr's difference"
  pub none_earlier : (day_got a row).refusal.number ≡ 0 → NoneEarlier (day_got a row).times (day_got b row).times
  pub exactly_later : (day_got a row).refusal.number ≡ 0
      → ExactlyLater orders.first.setting.parameters orders.second.setting.parameters (day_got a row).times (day_got b row).times
  -- "for any instants t and u, u not after t, the prayer in force at u under the second stands no later in the list of eight than at t
  -- under the first ("none" standing before Fajr)": none is 0, Fajr 1
  pub in_force : (t u : Instant) → instant_fits t ≡ true → instant_fits u ≡ true → NotAfter u t
      → (prayer_got b row u).prayer ≤ (prayer_got a row t).prayer
  pub in_force_refused : (t u : Instant) → instant_fits t ≡ true → instant_fits u ≡ true
      → (prayer_got a row t).refusal ≡ (prayer_got b row u).refusal

abbrev pub LaterOrdersMoveForHost : Type 0
LaterOrdersMoveForHost = (a b : List ℕ) (orders : LaterOrder a b) (row : ℕ) → MovedForHost a b orders row
