-- 0h of the date is added to each of the nine times; each sum fits an i64.
use Rattle.prelude.proofs.Logic.{◌≡◌, ◌^◌, lit≤, ℤ, ◌+ℤ◌, w64, SFits}
use Rattle.integers.proofs.Integers.{Near, read_back, held_fits, stored}
use Rattle.schedule.proofs.Schedule.{started_of, on_start}
use Rattle.schedule.proofs.prayer_times.started.Goals as goal

fits : {s r x : ℤ} → (r ≡ s) × Near (2 ^ 58) r → Near (2 ^ 43) x → SFits w64 (read_back w64 r +ℤ read_back w64 x)
fits p h = held_fits (on_start p h) (lit≤ tt)

pub overflow_add-result : goal.overflow_add-result
overflow_add-result c = fits c.start-start.ensures c.requires.fajr

pub overflow_add-result-2 : goal.overflow_add-result-2
overflow_add-result-2 c = fits c.start-start.ensures c.requires.sunrise

pub overflow_add-result-3 : goal.overflow_add-result-3
overflow_add-result-3 c = fits c.start-start.ensures c.requires.dhuhr

pub overflow_add-result-4 : goal.overflow_add-result-4
overflow_add-result-4 c = fits c.start-start.ensures c.requires.asr

pub overflow_add-result-5 : goal.overflow_add-result-5
overflow_add-result-5 c =
    fits c.start-start.ensures c.requires.maghrib

pub overflow_add-result-6 : goal.overflow_add-result-6
overflow_add-result-6 c =
    fits c.start-start.ensures c.requires.isha

pub overflow_add-result-7 : goal.overflow_add-result-7
overflow_add-result-7 c =
    fits c.start-start.ensures c.requires.middle_of_the_night

pub overflow_add-result-8 : goal.overflow_add-result-8
overflow_add-result-8 c =
    fits c.start-start.ensures c.requires.qiyam

pub overflow_add-result-9 : goal.overflow_add-result-9
overflow_add-result-9 c =
    fits c.start-start.ensures c.requires.fajr_tomorrow

pub returns : goal.returns
unfolding started_of
returns c =
    let h = c.requires in
    simp (
      (stored (on_start c.start-start.ensures h.fajr) (lit≤ tt)).is,
      (stored (on_start c.start-start.ensures h.sunrise) (lit≤ tt)).is,
      (stored (on_start c.start-start.ensures h.dhuhr) (lit≤ tt)).is,
      (stored (on_start c.start-start.ensures h.asr) (lit≤ tt)).is,
      (stored (on_start c.start-start.ensures h.maghrib) (lit≤ tt)).is,
      (stored (on_start c.start-start.ensures h.isha) (lit≤ tt)).is,
      (stored (on_start c.start-start.ensures h.middle_of_the_night) (lit≤ tt)).is,
      (stored (on_start c.start-start.ensures h.qiyam) (lit≤ tt)).is,
      (stored (on_start c.start-start.ensures h.fajr_tomorrow) (lit≤ tt)).is,
    )
