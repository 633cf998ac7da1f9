-- What a log says after an append, after one that is cut, and after a restart. Assumes nothing.
use Rattle.prelude.proofs.Logic.{◌≡◌, refl, sym, ap, ◌∙◌, Bool, true, false, false≢true, cond, ◌&&◌, ◌||◌, List, [], ◌∷◌, ◌++◌}
use Rattle.prelude.proofs.Logic.{append_assoc, append-nil, ℕ, ◌+◌, ◌/◌, ◌≤◌, ◌<◌, arith, leb, ltb, eqb, length, take, drop, length-append}
use Rattle.prelude.proofs.Logic.{take_at, length-take-le, le-leb, lt-leb, leb-true, ltb-true, ltb-false, eqb-true, arms, cases, both}
use mathlib.Core.Bool.{and-false}
use Rattle.refusals.specs.Refusals.{buffer_short, log_second_short, log_out_of_turn}
use Rattle.text.specs.Text.{put_of}
use Rattle.joblog.specs.declared.records.State.{State}
use Rattle.std.proofs.Common.{Ok, Err}
use Rattle.joblog.specs.Records.{LogReading, state, out_of_turn, record_as, bytes_of, records_of, whole_of, in_turn, after_of, read_of, log_reading_of, compacted_of}
use Rattle.joblog.specs.Calls.{LogCall, refusing, answered, read_log_of, read_answer, new_in_turn, compact_answer, compacting_of}
use Rattle.joblog.specs.Calls.{logged_of, appended_of, append_of, restarted_of, restart_of}
use Rattle.joblog.proofs.CompactLaws.{put_length}
use Rattle.joblog_laws.specs.Run.{log_after, used_after, in_place, may_be_used}
use Rattle.joblog_laws.proofs.ReadingLaws.{whole_records, cut_records, record_back, read_more, read_ordered, compacted_read}

second_of : (a b : Bool) → a ≡ false → a || b ≡ true → b ≡ true
second_of true b f h = let z : ◌≡◌ {A = ℕ} 0 1 = cc in absurd (omega arith)
second_of false b f h = h

-- ---- the first `used` bytes of a buffer are a log that says this
pub record Held (log : List ℕ) (used : ℕ) (s : State) : Type 0 where
  pub fits : used ≤ length log
  pub reads : log_reading_of (take used log) ≡ Ok s
  pub ordered : s.finished ≤ s.sent

pub held_read : (log : List ℕ) (used : ℕ) (s : State) → Held log used s → read_log_of log used ≡ answered 0 s (whole_of used)
unfolding read_log_of read_answer
held_read log used s h = rw (le-leb used (length log) h.fits, h.reads)

pub read_held : (log : List ℕ) (used : ℕ) (s : State) → leb used (length log) ≡ true → log_reading_of (take used log) ≡ Ok s
    → Held log used s
read_held log used s f e =
    record {
      fits = leb-true used (length log) f;
      reads = e;
      ordered = read_ordered true (state 0 0) s (records_of (take used log)) e (omega arith);
    }

-- a call on any log: it is refused, by another number than 12, or the log can be read. `call` is what the call returns and leaves
pub log_cases : (log : List ℕ) (used : ℕ) (second : List ℕ) (call : LogReading → LogCall)
    → ((p : ℕ) → call (out_of_turn p) ≡ refusing log_out_of_turn p log second) → (P : LogCall → Type 0)
    → ((number place : ℕ) → eqb number 0 ≡ false → eqb number log_second_short ≡ false → P (refusing number place log second))
    → ((s : State) → Held log used s → P (call (Ok s)))
    → P (cond (leb used (length log)) (call (log_reading_of (take used log))) (refusing buffer_short 0 log second))
log_cases log used second call out P refused-so said-so =
    arms P (leb used (length log)) (λ f. by-reading f (log_reading_of (take used log)) refl) (λ f. refused-so buffer_short 0 refl refl)
  where
    by-reading : leb used (length log) ≡ true → (x : LogReading) → log_reading_of (take used log) ≡ x → P (call x)
    by-reading f (Err o) e = rw (out o.page) (refused-so log_out_of_turn o.page refl refl)
    by-reading f (Ok s) e = said-so s (read_held log used s f e)

-- ---- bytes that are put
pub put_read : (buffer text : List ℕ) (at : ℕ) → at + length text ≤ length buffer
    → (take (at + length text) (put_of buffer at text) ≡ take at buffer ++ text)
    × (length (put_of buffer at text) ≡ length buffer) × (take at (put_of buffer at text) ≡ take at buffer)
unfolding put_of
put_read buffer text at h =
    let rest : List ℕ = drop (at + length text) buffer in
    let e : put_of buffer at text ≡ take at buffer ++ text ++ rest = rw (le-leb (at + length text) (length buffer) h) in
    let a = length-take-le at buffer (omega arith) in
    let m = length-append (take at buffer) text in (
      ap (take (at + length text)) e ∙ take_at (take at buffer ++ text) rest (at + length text) (omega arith),
      put_length buffer text at,
      ap (take at) (e ∙ append_assoc (take at buffer) text rest) ∙ take_at (take at buffer) (text ++ rest) at a,
    )

put_front_read : (text buffer : List ℕ) → length text ≤ length buffer → (take (length text) (put_of buffer 0 text) ≡ text)
    × (length text ≤ length (put_of buffer 0 text))
put_front_read text buffer h =
    let p = put_read buffer text 0 (omega arith) in
    let e : 0 + length text ≡ length text = omega arith in
    (rw e at p.0, omega (arith, p.1))

-- ---- how an append changes what the log says
pub data Change (s : State) (tag page : ℕ) : State → Type 0 where
  same : Change s tag page s
  sent : Change s tag page (state s.finished (s.sent + 1))
  done : tag ≡ 2 → page ≡ s.finished + 1 → s.finished + 1 ≤ s.sent → Change s tag page (state (s.finished + 1) s.sent)

in_turn_change : (s : State) (tag page : ℕ) → in_turn false s (record_as tag page) ≡ true → Change s tag page (after_of s (record_as tag page))
unfolding in_turn after_of
in_turn_change s tag page h =
    cases (eqb tag 1) (λ p. let e = eqb-true page (s.sent + 1) (simp p at h) in simp p (rw e sent))
    (λ p. cases (eqb tag 2)
    (λ q. let k = both (eqb page (s.finished + 1)) (leb page s.sent) (simp (p, q) at h) in
    let e = eqb-true page (s.finished + 1) k.0 in
    let l = leb-true page s.sent k.1 in
    simp (p, q) (rw e (done (eqb-true tag 2 q) refl (omega arith))))
    (λ q. absurd (false≢true (sym (and-false (eqb tag 3)) ∙ (simp (p, q) at h)))))

change_ordered : {s t : State} {tag page : ℕ} → Change s tag page t → s.finished ≤ s.sent → t.finished ≤ t.sent
change_ordered same h = h
change_ordered sent h = omega arith
change_ordered (done a b c) h = c

-- ---- append
-- a log says what its whole records say
whole_reads : (log : List ℕ) (used : ℕ) (s : State) → Held log used s → log_reading_of (take (whole_of used) log) ≡ Ok s
whole_reads log used s h =
    let f = h.fits in
    ap (read_of true (state 0 0)) (sym (cut_records (used / 5) log used (omega arith) (omega arith) (omega arith))) ∙ h.reads

module _ (log : List ℕ) (used : ℕ) (s : State) (h : Held log used s) (tag page : ℕ) (turn : in_turn false s (record_as tag page) ≡ true) where
  -- a record after the last whole one
  pub put-held : whole_of used + 5 ≤ length log
      → Held (put_of log (whole_of used) (bytes_of tag page)) (whole_of used + 5) (after_of s (record_as tag page))
  unfolding bytes_of
  put-held room =
      let p = put_read log (bytes_of tag page) (whole_of used) room in
      let f = h.fits in
      let n = length-take-le (whole_of used) log (omega arith) in
      record {
        fits = omega arith;
        reads = rw (p.0, whole_records (used / 5) (take (whole_of used) log) (bytes_of tag page) n, record_back tag page)
            (read_more true (state 0 0) s (records_of (take (whole_of used) log)) (record_as tag page) (whole_reads log used s h) turn);
        ordered = change_ordered (in_turn_change s tag page turn) h.ordered;
      }

  -- the compacted log, with the record after the open pages
  pub moved-held : (second : List ℕ) → length (compacted_of s ++ bytes_of tag page) ≤ length second
      → Held (put_of second 0 (compacted_of s ++ bytes_of tag page)) (length (compacted_of s ++ bytes_of tag page))
      (after_of s (record_as tag page))
  unfolding read_of
  moved-held second room =
      let p = put_front_read (compacted_of s ++ bytes_of tag page) second room in
      let one : read_of false s (record_as tag page ∷ []) ≡ Ok (after_of s (record_as tag page)) = rw turn in
      record {
        fits = p.1;
        reads = rw (p.0, compacted_read s (bytes_of tag page) h.ordered, record_back tag page) one;
        ordered = change_ordered (in_turn_change s tag page turn) h.ordered;
      }

-- the log after a restart
pub restart_held : (s : State) (second : List ℕ) → s.finished ≤ s.sent → length (compacted_of s) ≤ length second
    → Held (put_of second 0 (compacted_of s)) (length (compacted_of s)) s
unfolding records_of read_of
restart_held s second ordered room =
    let p = put_front_read (compacted_of s) second room in
    record {
      fits = p.1;
      reads = ap log_reading_of (p.0 ∙ sym (append-nil (compacted_of s))) ∙ compacted_read s [] ordered;
      ordered = ordered;
    }

-- ---- a cut at any byte of an append that fits. `k` of the record's five bytes are written.
-- If `used` does not count the whole record, the log is as it was before.
pub cut_before : (log : List ℕ) (used : ℕ) (s : State) → Held log used s → (tag page k u : ℕ) → k ≤ 5 → whole_of used ≤ u
    → u < whole_of used + 5
    → whole_of used + 5 ≤ length log → Held (put_of log (whole_of used) (take k (bytes_of tag page))) u s
unfolding bytes_of
cut_before log used s h tag page k u short low high room =
    let f = h.fits in
    let l = length-take-le k (bytes_of tag page) short in
    let p = put_read log (take k (bytes_of tag page)) (whole_of used) (omega arith) in
    record {
      fits = omega arith;
      reads = rw (cut_records (used / 5) (put_of log (whole_of used) (take k (bytes_of tag page))) u low high (omega arith), p.2)
          (whole_reads log used s h);
      ordered = h.ordered;
    }

-- the log's buffer during an append, with k of the record's bytes written
abbrev pub cut_log : List ℕ → ℕ → LogCall → ℕ → ℕ → ℕ → List ℕ
cut_log log used c tag page k = cond (in_place c) (put_of log (whole_of used) (take k (bytes_of tag page))) log

-- ---- the calls
pub record After (s : State) (tag page : ℕ) (log : List ℕ) (used : ℕ) : Type 0 where
  pub to : State
  pub held : Held log used to
  pub how : Change s tag page to

unchanged : {s : State} {tag page : ℕ} {log : List ℕ} {used : ℕ} → Held log used s → After s tag page log used
unchanged {s} h = record { to = s; held = h; how = same }

changed : {s : State} {tag page : ℕ} {log : List ℕ} {used : ℕ} → in_turn false s (record_as tag page) ≡ true
    → Held log used (after_of s (record_as tag page)) → After s tag page log used
changed {s} {tag} {page} turn h = record { to = after_of s (record_as tag page); held = h; how = in_turn_change s tag page turn }

module _ (log : List ℕ) (used : ℕ) (s : State) (tag page : ℕ) (second : List ℕ) where
  -- the three outcomes of an append on a log that can be read
  pub data Outcome : LogCall → Type 0 where
    refusal : (number : ℕ) (after : List ℕ) → eqb number 0 ≡ false → Outcome (refusing number page log after)
    placed : in_turn false s (record_as tag page) ≡ true → whole_of used + 5 ≤ length log
        → Outcome (record {
          answer = answered 0 (after_of s (record_as tag page)) (whole_of used + 5);
          log = put_of log (whole_of used) (bytes_of tag page);
          second = second;
        })
    moved : in_turn false s (record_as tag page) ≡ true → length (compacted_of s ++ bytes_of tag page) ≤ length second
        → Outcome (record {
          answer = answered 1 (after_of s (record_as tag page)) (length (compacted_of s ++ bytes_of tag page));
          log = log;
          second = put_of second 0 (compacted_of s ++ bytes_of tag page);
        })

  pub said-outcome : Outcome (appended_of (Ok s) log used tag page second)
  unfolding appended_of new_in_turn logged_of compact_answer
  said-outcome =
      arms Outcome (leb page 65535 && in_turn false s (record_as tag page))
      (λ e. let turn = (both (leb page 65535) _ e).1 in
      arms Outcome (leb (whole_of used + 5) (length log)) (λ f. placed turn (leb-true _ _ f))
      (λ f. cases (leb (length (compacted_of s ++ bytes_of tag page)) (length second)) (λ r. simp r (moved turn (leb-true _ _ r)))
      (λ r. simp r (refusal log_second_short (put_of second 0 (compacted_of s ++ bytes_of tag page)) refl))))
      (λ e. refusal log_out_of_turn second refl)

  pub append-outcome : Held log used s → Outcome (append_of log used tag page second)
  unfolding append_of
  append-outcome h = rw (le-leb used (length log) h.fits, h.reads) said-outcome

  -- an append that returns
  pub append-after : Held log used s → {c : LogCall} → Outcome c → After s tag page (log_after c) (used_after c used)
  append-after h (refusal number after e) = rw e (unchanged h)
  append-after h (placed turn room) = changed turn (put-held log used s h tag page turn room)
  append-after h (moved turn room) = changed turn (moved-held log used s h tag page turn second room)

  -- during an append, with k of the record's bytes written
  pub cut-now : Held log used s → {c : LogCall} → Outcome c → (k : ℕ) → k ≤ 5 → Held (cut_log log used c tag page k) used s
  cut-now h (refusal number after e) k five = rw e h
  cut-now h (moved turn room) k five = h
  cut-now h (placed turn room) k five = cut_before log used s h tag page k used five (omega arith) (omega arith) room

  -- an append that a crash cuts
  pub cut-after : Held log used s → {c : LogCall} → Outcome c → (k u : ℕ) → k ≤ 5
      → After s tag page (cut_log log used c tag page k) (cond (in_place c && may_be_used used k u) u used)
  unfolding bytes_of
  cut-after h (refusal number after e) k u five = rw e (unchanged h)
  cut-after h (moved turn room) k u five = unchanged h
  cut-after h (placed turn room) k u five =
      arms (After s tag page (put_of log (whole_of used) (take k (bytes_of tag page)))) (may_be_used used k u)
      (λ m. let p = both (leb (whole_of used) u) (leb u used || leb u (whole_of used + k)) m in
      cases (ltb u (whole_of used + 5))
      (λ e. unchanged (cut_before log used s h tag page k u five (leb-true _ _ p.0) (ltb-true _ _ e) room))
      (λ e. let low = ltb-false u (whole_of used + 5) e in
      let more = leb-true u (whole_of used + k) (second_of (leb u used) (leb u (whole_of used + k)) (lt-leb u used (omega arith)) p.1) in
      let k5 : k ≡ 5 = omega arith in
      let u5 : u ≡ whole_of used + 5 = omega arith in
      rw (k5, u5) (changed turn (put-held log used s h tag page turn room))))
      (λ m. unchanged (cut_before log used s h tag page k used five (omega arith) (omega arith) room))

-- ---- restart, with a count between the log's finished and sent pages
pub restart_outcome : (log : List ℕ) (used : ℕ) (s : State) → Held log used s → (count : ℕ) (second : List ℕ) → s.finished ≤ count
    → count ≤ s.sent
    → restart_of log used count second ≡ compacting_of (state count s.sent) (compacted_of (state count s.sent)) count log second
unfolding restart_of restarted_of
restart_outcome log used s h count second low high = rw (le-leb used (length log) h.fits, h.reads, le-leb _ _ low, le-leb _ _ high)
