-- Compaction, put record by record. Assumes nothing.
use Rattle.prelude.proofs.Logic.{◌≡◌, refl, sym, List, ◌++◌, append_assoc, append-nil, ℕ, zero, suc, ◌+◌, ◌-◌, ◌*◌, ◌≤◌, ◌<◌}
use Rattle.prelude.proofs.Logic.{arith, leb, length, length-append, length-drop, length-take-le, lt-leb, leb-true, arms}
use Rattle.text.specs.Text.{put_of}
use Rattle.text.proofs.TextLaws.{put_behind, put_nothing}
use Rattle.joblog.specs.declared.records.State.{State}
use Rattle.joblog.specs.Records.{bytes_of, open_of, compacted_of}

pub bytes_length : (tag page : ℕ) → length (bytes_of tag page) ≡ 5
unfolding bytes_of
bytes_length tag page = refl

pub put_length : (buffer text : List ℕ) (at : ℕ) → length (put_of buffer at text) ≡ length buffer
unfolding put_of
put_length buffer text at =
    arms (λ (x : List ℕ). length x ≡ length buffer) (leb (at + length text) (length buffer))
    (λ e. let h = leb-true (at + length text) (length buffer) e in
    let t = length-take-le at buffer (omega arith) in
    let d = length-drop (at + length text) buffer in
    simp length-append (omega arith))
    (λ e. refl)

pub put_none : (buffer text : List ℕ) → length buffer < length text → put_of buffer 0 text ≡ buffer
unfolding put_of
put_none buffer text h = rw (lt-leb (0 + length text) (length buffer) (omega arith))

pub open_length : (page n : ℕ) → length (open_of page n) ≡ 5 * n
unfolding open_of bytes_of
open_length page zero = refl
open_length page (suc n) = let i = open_length (page + 1) n in omega arith

pub compacted_length : (s : State) → length (compacted_of s) ≡ 5 + 5 * (s.sent - s.finished)
unfolding compacted_of bytes_of
compacted_length s = let i = open_length s.finished (s.sent - s.finished) in omega arith

open_more : (n page : ℕ) → open_of page (suc n) ≡ open_of page n ++ bytes_of 1 (page + suc n)
unfolding open_of
open_more zero page = append-nil (bytes_of 1 (page + 1))
open_more (suc n) page =
    let k : page + 1 + suc n ≡ page + suc (suc n) = omega arith in
    rw (open_more n (page + 1), k) (sym (append_assoc (bytes_of 1 (page + 1)) (open_of (page + 1) n) (bytes_of 1 (page + suc (suc n)))))

-- before the first open page
pub put_none_open : (buffer : List ℕ) (page : ℕ) → 5 ≤ length buffer → buffer ≡ put_of buffer 5 (open_of page (page - page))
unfolding open_of
put_none_open buffer page h =
    let e : page - page ≡ 0 = omega arith in
    rw e (sym (put_nothing buffer 5 h))

-- one open page more
pub put_open : (buffer now : List ℕ) (first page at : ℕ) → now ≡ put_of buffer 5 (open_of first (page - first)) → at ≡ 5 + 5 * (page - first)
    → first ≤ page
    → at + 5 ≤ length buffer → put_of now at (bytes_of 1 (page + 1)) ≡ put_of buffer 5 (open_of first (page + 1 - first))
put_open buffer now first page at e a low room =
    let n = page - first in
    let l = open_length first n in
    let b = bytes_length 1 (page + 1) in
    let k : page + 1 - first ≡ suc n = omega arith in
    let j : first + suc n ≡ page + 1 = omega arith in
    let at_end : at ≡ 5 + length (open_of first n) = omega arith in
    rw (e, at_end, k, open_more n first, j) (put_behind buffer (open_of first n) (bytes_of 1 (page + 1)) 5 (omega arith))

-- the finished record and all open pages
pub put_whole : (entry start exit : List ℕ) (s : State) (page : ℕ) → start ≡ put_of entry 0 (bytes_of 3 s.finished)
    → exit ≡ put_of start 5 (open_of s.finished (page - s.finished)) → page - s.finished ≡ s.sent - s.finished
    → length (compacted_of s) ≤ length entry → exit ≡ put_of entry 0 (compacted_of s)
unfolding compacted_of
put_whole entry start exit s page b e n room =
    let l = open_length s.finished (s.sent - s.finished) in
    let h = bytes_length 3 s.finished in
    let m = length-append (bytes_of 3 s.finished) (open_of s.finished (s.sent - s.finished)) in
    let five : 0 + length (bytes_of 3 s.finished) ≡ 5 = omega arith in
    let behind = put_behind entry (bytes_of 3 s.finished) (open_of s.finished (s.sent - s.finished)) 0 (omega arith) in
    rw (e, n, b) (rw five at behind)
