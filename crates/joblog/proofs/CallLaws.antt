-- What the proofs of the calls use: a compacted log with one record more, and what a restart depends on.
-- Assumes nothing.
use Rattle.prelude.proofs.Logic.{◌≡◌, refl, ◌&&◌, List, [], ◌++◌, ℕ, ◌+◌, ◌-◌, ◌*◌, ◌≤◌, arith}
use Rattle.prelude.proofs.Logic.{leb, length, length-append, cases}
use Rattle.text.specs.Text.{put_of}
use Rattle.text.proofs.TextLaws.{put_behind}
use Rattle.std.proofs.Common.{Ok, Err}
use Rattle.joblog.specs.declared.records.State.{State}
use Rattle.joblog.specs.Records.{LogReading, bytes_of, compacted_of}
use Rattle.joblog.specs.Calls.{restarted_of}
use Rattle.joblog.proofs.CompactLaws.{bytes_length, compacted_length}

-- ---- compaction
pub with_length : (s : State) (tag page : ℕ) → length (compacted_of s ++ bytes_of tag page) ≡ 10 + 5 * (s.sent - s.finished)
with_length s tag page =
    let a = length-append (compacted_of s) (bytes_of tag page) in
    let b = compacted_length s in
    let d = bytes_length tag page in
    omega arith

pub put_with : (s : State) (tag page at : ℕ) (second one two : List ℕ) → one ≡ put_of second 0 (compacted_of s) → at ≡ length (compacted_of s)
    → two ≡ put_of one at (bytes_of tag page) → length (compacted_of s ++ bytes_of tag page) ≤ length second
    → two ≡ put_of second 0 (compacted_of s ++ bytes_of tag page)
put_with s tag page at second one two e a f room =
    let l = length-append (compacted_of s) (bytes_of tag page) in
    let z : at ≡ 0 + length (compacted_of s) = omega arith in
    rw (f, e, z) (put_behind second (compacted_of s) (bytes_of tag page) 0 (omega arith))

-- ---- restart
-- what it returns and writes depends on the log's reading, not on the bytes of the first buffer
pub restarted_any : (x : LogReading) (log : List ℕ) (count : ℕ) (second : List ℕ)
    → ((restarted_of x [] count second).answer ≡ (restarted_of x log count second).answer)
    × ((restarted_of x [] count second).second ≡ (restarted_of x log count second).second)
unfolding restarted_of
restarted_any (Err e) log count second = (refl, refl)
restarted_any (Ok s) log count second =
    cases (leb s.finished count && leb count s.sent) (λ t. simp t (refl, refl)) (λ t. simp t (refl, refl))
