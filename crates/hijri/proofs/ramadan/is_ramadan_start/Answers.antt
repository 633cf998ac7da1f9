-- A day far outside the calendar is no start, whatever the shift. For any other day the difference fits, and the date decides.
use Rattle.prelude.proofs.Logic.{◌≡◌, sym, ap, ◌∙◌, ◌-ℤ◌, eq-eqb, ne_eqb}
use Rattle.integers.proofs.Integers.{wide}
use Rattle.hijri.specs.Days.{of_day_of}
use Rattle.hijri.specs.Ramadan.{ramadan_start_of}
use Rattle.hijri.proofs.RamadanStart.{far-below, far-above, less_fits, shift-read}
use Rattle.hijri.proofs.ramadan.is_ramadan_start.Goals as goal

pub returns-then-day-lt-LONG_BEFORE : goal.returns-then-day-lt-LONG_BEFORE
returns-then-day-lt-LONG_BEFORE c = far-below _ c.ranges.day _ c.ranges.shift c.if-day-lt-LONG_BEFORE.true

pub returns-then-day-gt-LONG_AFTER : goal.returns-then-day-gt-LONG_AFTER
returns-then-day-gt-LONG_AFTER c =
    let s = c.before.before in
    far-above _ s.ranges.day _ s.ranges.shift c.if-day-gt-LONG_AFTER.true

pub overflow_cast-shift : goal.overflow_cast-shift
overflow_cast-shift c = wide _ c.ranges.shift

pub overflow_sub-day : goal.overflow_sub-day
overflow_sub-day c =
    let s = c.before.before in less_fits _ s.ranges.day _ s.ranges.shift c.if-day-lt-LONG_BEFORE.false c.if-day-gt-LONG_AFTER.false

pub returns-then-date-eq9 : goal.returns-then-date-eq9
unfolding ramadan_start_of
returns-then-date-eq9 c =
    let q = c.before.before.before in
    let s = q.before.before.before in
    let r = shift-read _ s.ranges.day _ s.ranges.shift q.if-day-lt-LONG_BEFORE.false q.if-day-gt-LONG_AFTER.false in
    let e : q.of_day-date.result ≡ of_day_of (s.args.day -ℤ s.args.shift) = q.of_day-date.ensures ∙ ap of_day_of r in
    simp (sym e, eq-eqb _ _ c.if-date-eq9.true)

pub returns-else-date-eq9 : goal.returns-else-date-eq9
unfolding ramadan_start_of
returns-else-date-eq9 c =
    let q = c.before.before in
    let s = q.before.before.before in
    let r = shift-read _ s.ranges.day _ s.ranges.shift q.if-day-lt-LONG_BEFORE.false q.if-day-gt-LONG_AFTER.false in
    let e : q.of_day-date.result ≡ of_day_of (s.args.day -ℤ s.args.shift) = q.of_day-date.ensures ∙ ap of_day_of r in
    simp (sym e, ne_eqb _ _ c.if-date-eq9.false)
