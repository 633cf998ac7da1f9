-- Four pieces, each put where the one before it ends. A sum up to any piece fits, since the whole text has room.
use Rattle.prelude.proofs.Logic.{◌≡◌, ◌+◌, ◌≤◌, arith, length, w64}
use Rattle.integers.proofs.Ranges.{read}
use Rattle.text.specs.{Signed.signed_of, Text.decimal_of}
use Rattle.weeks.proofs.LineLaws.{pair_bytes, pair_made}
use Rattle.weeks.proofs.line.put_pair.Goals as goal

pub overflow_add-end-2 : goal.overflow_add-end-2
overflow_add-end-2 c =
    let a = c.args in
    let bytes = pair_bytes a.minute a.row in
    let x = read w64 a.minute c.ranges.minute in
    let s : c.put_signed.result ≡ length (signed_of a.minute) = rw x at c.put_signed.ensures.value in
    let room : a.at + (2 + length (signed_of a.minute) + length (decimal_of a.row)) ≤ length a.buffer.now = omega (arith, c.requires) in
    record { fits = omega arith }

pub overflow_add-end-3 : goal.overflow_add-end-3
overflow_add-end-3 c =
    let a = c.args in
    let bytes = pair_bytes a.minute a.row in
    let x = read w64 a.minute c.ranges.minute in
    let s : c.put_signed.result ≡ length (signed_of a.minute) = rw x at c.put_signed.ensures.value in
    let room : a.at + (2 + length (signed_of a.minute) + length (decimal_of a.row)) ≤ length a.buffer.now = omega (arith, c.requires) in
    record { fits = omega arith }

pub overflow_add-result : goal.overflow_add-result
overflow_add-result c =
    let a = c.args in
    let bytes = pair_bytes a.minute a.row in
    let x = read w64 a.minute c.ranges.minute in
    let s : c.put_signed.result ≡ length (signed_of a.minute) = rw x at c.put_signed.ensures.value in
    let room : a.at + (2 + length (signed_of a.minute) + length (decimal_of a.row)) ≤ length a.buffer.now = omega (arith, c.requires) in
    record { fits = omega (arith, c.put_decimal.ensures.value) }

pub returns : goal.returns
returns c =
    let a = c.args in
    let bytes = pair_bytes a.minute a.row in
    let x = read w64 a.minute c.ranges.minute in
    let s : c.put_signed.result ≡ length (signed_of a.minute) = rw x at c.put_signed.ensures.value in
    let room : a.at + (2 + length (signed_of a.minute) + length (decimal_of a.row)) ≤ length a.buffer.now = omega (arith, c.requires) in
    let decimal = c.put_decimal.ensures in
    let made = pair_made a.buffer.now a.at a.minute a.row c.requires _ _ _ _ _ _ c.put.ensures s
    (rw x at c.put_signed.ensures.buffer_after) c.put-2.ensures decimal.value decimal.buffer_after in
    record { value = made.0; buffer_after = made.1 }
