-- The pieces of either line, each put where the one before it ends.
use Rattle.prelude.proofs.Logic.{◌≡◌, arith, length, rules, w64}
use Rattle.integers.proofs.Ranges.{read}
use Rattle.weeks.proofs.LineLaws.{line_front, found_bytes, refused_bytes, found-made, refused-made}
use Rattle.weeks.proofs.line.put_window.Goals as goal

pub overflow_add-end : goal.overflow_add-end
overflow_add-end c =
    let front = line_front c.args.first c.args.window in
    record { fits = omega (arith, c.requires, c.put_decimal.ensures.value) }

pub put_pair-end-requires : goal.put_pair-end-requires
put_pair-end-requires c =
    let x = c.in-Some.found in
    let room = rw c.in-Some.is at c.requires in
    let bytes = found_bytes c.args.first x in
    let kept : length c.put_decimal.new.buffer ≡ length c.args.buffer.now = c.put_decimal.auto.buffer in
    rw (read w64 x.earliest (search rules)) (omega (arith, c.put_decimal.ensures.value))

pub put_pair-end-requires-in-Some : goal.put_pair-end-requires-in-Some
put_pair-end-requires-in-Some c =
    let x = c.in-Some.found in
    let room = rw c.in-Some.is at c.requires in
    let bytes = found_bytes c.args.first x in
    let e = rw (read w64 x.earliest (search rules)) at c.put_pair-end.ensures.value in
    let kept : length c.put_decimal.new.buffer ≡ length c.args.buffer.now = c.put_decimal.auto.buffer in
    let kept2 : length c.put_pair-end.new.buffer ≡ length c.put_decimal.new.buffer = c.put_pair-end.auto.buffer in
    rw (read w64 x.latest (search rules)) (omega (arith, c.put_decimal.ensures.value))

pub overflow_add-result : goal.overflow_add-result
overflow_add-result c =
    let x = c.in-Some.found in
    let room = rw c.in-Some.is at c.requires in
    let bytes = found_bytes c.args.first x in
    let e = rw (read w64 x.earliest (search rules)) at c.put_pair-end.ensures.value in
    let f = rw (read w64 x.latest (search rules)) at c.put_pair-end-in-Some.ensures.value in
    record { fits = omega (arith, c.put_decimal.ensures.value) }

pub returns-in-Some : goal.returns-in-Some
returns-in-Some c =
    let x = c.in-Some.found in
    let told = c.in-Some.is in
    let e = rw (read w64 x.earliest (search rules)) at c.put_pair-end.ensures.value in
    let f = rw (read w64 x.latest (search rules)) at c.put_pair-end-in-Some.ensures.value in
    let decimal = c.put_decimal.ensures in
    let made = found-made _ _ c.args.first x (rw told at c.requires) _ _ _ _ _ _ _ decimal.value decimal.buffer_after
    e (rw (read w64 x.earliest (search rules)) at c.put_pair-end.ensures.buffer_after)
    f (rw (read w64 x.latest (search rules)) at c.put_pair-end-in-Some.ensures.buffer_after) c.put.ensures in
    record { value = rw told made.0; buffer_after = rw told made.1 }

pub overflow_add-result-in-None : goal.overflow_add-result-in-None
overflow_add-result-in-None c =
    let room = rw c.in-None.is at c.requires in
    let bytes = refused_bytes c.args.first in
    let e = c.put_decimal.ensures.value in
    record { fits = omega arith }

pub returns-in-None : goal.returns-in-None
returns-in-None c =
    let told = c.in-None.is in
    let decimal = c.put_decimal.ensures in
    let made = refused-made _ _ c.args.first (rw told at c.requires) _ _ _ decimal.value decimal.buffer_after
    c.put-in-None.ensures in
    record { value = rw told made.0; buffer_after = rw told made.1 }
