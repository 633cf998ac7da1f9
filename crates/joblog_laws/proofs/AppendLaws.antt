-- Both buffers after a single call, and a cut at any byte of an append. Assumes nothing.
use Rattle.prelude.proofs.Logic.{◌≡◌, refl, sym, ap, ◌∙◌, Bool, true, false, true≢false, cond, ◌&&◌, List, [], ◌++◌, append-nil}
use Rattle.prelude.proofs.Logic.{ℕ, ◌+◌, ◌-◌, ◌*◌, ◌≤◌, ◌<◌, arith, leb, ltb, eqb, length, take, drop, length-append, drop-append-add}
use Rattle.prelude.proofs.Logic.{drop-drop, length-take-le, le-leb, leb-true, leb-false, ltb-true, ltb-false, arms, both, cases}
use Rattle.refusals.specs.Refusals.{log_second_short, log_out_of_turn}
use Rattle.text.specs.Text.{put_of}
use Rattle.joblog.specs.declared.records.{State.State}
use Rattle.std.proofs.Common.{Ok}
use Rattle.joblog.specs.Records.{state, record_as, bytes_of, records_of, whole_of, in_turn, after_of, read_of, log_reading_of, compacted_of}
use Rattle.joblog.specs.declared.calls.Log.{Log}
use Rattle.joblog.specs.Calls.{LogCall, refusing, answered, read_log_of, new_in_turn, compact_answer, compacting_of}
use Rattle.joblog.specs.Calls.{logged_of, appended_of, append_of, restarted_of, restart_of}
use Rattle.joblog.proofs.CompactLaws.{bytes_length, compacted_length, put_none}
use Rattle.joblog.proofs.CallLaws.{with_length}
use Rattle.joblog_laws.specs.Run.{in_place}
use Rattle.joblog_laws.specs.Appends.{Unchanged, RefusedLogStays, FirstBufferStays, FiveBytesChange, cut_at, CutAtAnyByte}
use Rattle.joblog_laws.specs.Appends.{NextTakesItsPlace, LogRoomIsEnough, CompactionSaysTheSame, SaysSo, LogSaysSo}
use Rattle.joblog_laws.proofs.ReadingLaws.{compacted_read}
use Rattle.joblog_laws.proofs.HeldLaws.{Held, held_read, put_read, put-held, moved-held, restart_held, cut_before, Outcome, refusal}
use Rattle.joblog_laws.proofs.HeldLaws.{placed, moved, log_cases, said-outcome}

-- ---- which bytes change
Keeps : List ℕ → List ℕ → LogCall → Type 0
Keeps log second c = (eqb c.answer.number 0 ≡ false → Unchanged c log second) × (in_place c ≡ false → c.log ≡ log)

compacting_keeps : (t : State) (text : List ℕ) (place : ℕ) (log second : List ℕ) → Keeps log second (compacting_of t text place log second)
unfolding Keeps compact_answer
compacting_keeps t text place log second = (
  arms (λ (a : Log). eqb a.number 0 ≡ false → (log ≡ log) × (put_of second 0 text ≡ second)) (leb (length text) (length second))
      (λ e n. let z : ◌≡◌ {A = ℕ} 0 1 = cc in absurd (omega arith))
      (λ e n. (refl, put_none second text (leb-false (length text) (length second) e))),
  λ i. refl,
)

append_keeps : (log : List ℕ) (used tag page : ℕ) (second : List ℕ) → Keeps log second (append_of log used tag page second)
unfolding Keeps append_of appended_of logged_of
append_keeps log used tag page second =
    log_cases log used second (λ x. appended_of x log used tag page second) (λ p. refl) (Keeps log second)
    (λ number place n m. (λ r. (refl, refl), λ i. refl))
    (λ s h. arms (Keeps log second) (new_in_turn s tag page)
    (λ t. arms (Keeps log second) (leb (whole_of used + 5) (length log)) (λ r. (λ n. absurd (true≢false n), λ i. absurd (true≢false i)))
    (λ r. compacting_keeps (after_of s (record_as tag page)) (compacted_of s ++ bytes_of tag page) page log second))
    (λ t. (λ n. (refl, refl), λ i. refl)))

Left : List ℕ → List ℕ → LogCall → Type 0
Left log second c = (eqb c.answer.number 0 ≡ false → Unchanged c log second) × (c.log ≡ log)

restart_keeps : (log : List ℕ) (used count : ℕ) (second : List ℕ) → Left log second (restart_of log used count second)
unfolding Keeps Left restart_of restarted_of
restart_keeps log used count second =
    log_cases log used second (λ x. restarted_of x log count second) (λ p. refl) (Left log second)
    (λ number place n m. (λ r. (refl, refl), refl))
    (λ s h. arms (Left log second) (leb s.finished count && leb count s.sent)
    (λ t. ((compacting_keeps (state count s.sent) (compacted_of (state count s.sent)) count log second).0, refl))
    (λ t. (λ n. (refl, refl), refl)))

pub refused_changes_nothing : RefusedLogStays
unfolding Keeps Left
refused_changes_nothing log used second =
    (λ tag page. (append_keeps log used tag page second).0, λ count. (restart_keeps log used count second).0)

pub first_buffer_stays : FirstBufferStays
unfolding Keeps Left
first_buffer_stays log used second =
    (λ tag page. (append_keeps log used tag page second).1, λ count. (restart_keeps log used count second).1)

-- ---- an append in the log's own place
module _ (log : List ℕ) (used tag page : ℕ) (second : List ℕ) where
  placedCall : State → LogCall
  placedCall s = record {
    answer = answered 0 (after_of s (record_as tag page)) (whole_of used + 5);
    log = put_of log (whole_of used) (bytes_of tag page);
    second = second;
  }

  record Placed (c : LogCall) : Type 0 where
    pub says : State
    pub held : Held log used says
    pub turn : in_turn false says (record_as tag page) ≡ true
    pub room : whole_of used + 5 ≤ length log
    pub is : c ≡ placedCall says

  by-outcome : (s : State) → Held log used s → {c : LogCall} → Outcome log used s tag page second c → in_place c ≡ true → Placed c
  unfolding placedCall
  by-outcome s h (refusal number after e) i = absurd (true≢false (sym i ∙ simp e))
  by-outcome s h (moved turn room) i = absurd (true≢false (sym i))
  by-outcome s h (placed turn room) i = record { says = s; held = h; turn = turn; room = room; is = refl }

  placed_there : in_place (append_of log used tag page second) ≡ true → Placed (append_of log used tag page second)
  unfolding append_of appended_of
  placed_there =
      log_cases log used second (λ x. appended_of x log used tag page second) (λ p. refl) (λ (c : LogCall). in_place c ≡ true → Placed c)
      (λ number place n m i. absurd (true≢false (sym i ∙ simp n))) (λ s h. by-outcome s h (said-outcome log used s tag page second))

pub five_bytes_change : FiveBytesChange
unfolding placedCall put_of
five_bytes_change log used tag page second i =
    let p = placed_there log used tag page second i in
    let n = bytes_length tag page in
    let l : whole_of used + length (bytes_of tag page) ≡ whole_of used + 5 = omega arith in
    let put : put_of log (whole_of used) (bytes_of tag page) ≡ take (whole_of used) log ++ bytes_of tag page ++ drop (whole_of used + 5) log =
    rw (l, le-leb (whole_of used + 5) (length log) p.room) in
    (ap (λ (c : LogCall). c.log) p.is ∙ put, ap (λ (c : LogCall). c.second) p.is)

-- ---- a cut at any byte
cut_held : (log : List ℕ) (used tag page : ℕ) (second : List ℕ) {c : LogCall} (p : Placed log used tag page second c) (k : ℕ) → k < 5
    → Held (cut_at log used tag page k) (whole_of used + k) p.says
cut_held log used tag page second p k short =
    cut_before log used p.says p.held tag page k (whole_of used + k) (omega arith) (omega arith) (omega arith) p.room

cut_read : (log : List ℕ) (used tag page : ℕ) (second : List ℕ) {c : LogCall} (p : Placed log used tag page second c) (k : ℕ) → k ≤ 5
    → (b : Bool) → ltb k 5 ≡ b → read_log_of (cut_at log used tag page k) (whole_of used + k) ≡ cond b (read_log_of log used) c.answer
unfolding bytes_of placedCall
cut_read log used tag page second p k five true e =
    let l = ltb-true k 5 e in
    let w : whole_of (whole_of used + k) ≡ whole_of used = omega arith in
    rw (held_read _ _ p.says (cut_held log used tag page second p k l), w, held_read log used p.says p.held)
cut_read log used tag page second p k five false e =
    let l = ltb-false k 5 e in
    let w : whole_of (whole_of used + 5) ≡ whole_of used + 5 = omega arith in
    let k5 : k ≡ 5 = omega arith in
    let s = after_of p.says (record_as tag page) in
    rw k5 (held_read _ _ s (put-held log used p.says p.held tag page p.turn p.room) ∙ ap (answered 0 s) w)
    ∙ sym (ap (λ (c : LogCall). c.answer) p.is)

pub cut_at_any_byte : CutAtAnyByte
cut_at_any_byte log used tag page second k i five =
    cut_read log used tag page second (placed_there log used tag page second i) k five (ltb k 5) refl

-- bytes that are put over others at the same offset
put_over : (buffer x y : List ℕ) (at : ℕ) → length x ≤ length y → at + length y ≤ length buffer
    → put_of (put_of buffer at x) at y ≡ put_of buffer at y
unfolding put_of
put_over buffer x y at short room =
    let e : put_of buffer at x ≡ take at buffer ++ x ++ drop (at + length x) buffer =
    rw (le-leb (at + length x) (length buffer) (omega arith)) in
    let p = put_read buffer x at (omega arith) in
    let n = length-append (take at buffer) x in
    let a = length-take-le at buffer (omega arith) in
    let j : at + length y ≡ length (take at buffer ++ x) + (length y - length x) = omega arith in
    let m : at + length x + (length y - length x) ≡ at + length y = omega arith in
    let d : drop (at + length y) (put_of buffer at x) ≡ drop (at + length y) buffer =
    rw (← e, ← j, m) at (drop-append-add (take at buffer ++ x) (drop (at + length x) buffer) (length y - length x)
    ∙ drop-drop (length y - length x) (at + length x) buffer) in
    let l : leb (at + length y) (length (put_of buffer at x)) ≡ true =
    le-leb (at + length y) (length (put_of buffer at x)) (omega (arith, p.1)) in
    rw (l, le-leb (at + length y) (length buffer) room, p.2, d)

-- an append on a log that can be read and is not full
append_on : (log : List ℕ) (used : ℕ) (s : State) → Held log used s → whole_of used + 5 ≤ length log → (tag page : ℕ) (second : List ℕ)
    → append_of log used tag page second ≡ cond (new_in_turn s tag page) (placedCall log used tag page second s)
    (refusing log_out_of_turn page log second)
unfolding append_of appended_of logged_of placedCall
append_on log used s h room tag page second = rw (le-leb used (length log) h.fits, h.reads, le-leb (whole_of used + 5) (length log) room)

module _ (log : List ℕ) (used tag page : ℕ) (second : List ℕ) {c : LogCall} (p : Placed log used tag page second c) (k : ℕ)
    (short : k < 5) (tag' page' : ℕ) (second' : List ℕ) where
  Same : LogCall → LogCall → Type 0
  Same next plain = (next.answer ≡ plain.answer) × (eqb next.answer.number 0 ≡ true → next.log ≡ plain.log)

  same_after : (b : Bool)
      → Same
      (cond b (placedCall (cut_at log used tag page k) (whole_of used + k) tag' page' second' p.says)
      (refusing log_out_of_turn page' (cut_at log used tag page k) second'))
      (cond b (placedCall log used tag' page' second' p.says) (refusing log_out_of_turn page' log second'))
  unfolding Same placedCall
  same_after true =
      let w : whole_of (whole_of used + k) ≡ whole_of used = omega arith in
      let n = bytes_length tag page in
      let m = bytes_length tag' page' in
      let l = length-take-le k (bytes_of tag page) (omega arith) in
      let room = p.room in
      let o = put_over log (take k (bytes_of tag page)) (bytes_of tag' page') (whole_of used) (omega arith) (omega arith) in (
        ap (λ (at : ℕ). answered 0 (after_of p.says (record_as tag' page')) (at + 5)) w,
        λ accepted. ap (λ (at : ℕ). put_of (cut_at log used tag page k) at (bytes_of tag' page')) w ∙ o,
      )
  same_after false = (refl, λ accepted. let z : ◌≡◌ {A = ℕ} 0 1 = cc in absurd (omega arith))

  next-same : Same (append_of (cut_at log used tag page k) (whole_of used + k) tag' page' second') (append_of log used tag' page' second')
  next-same =
      let n = bytes_length tag page in
      let l = length-take-le k (bytes_of tag page) (omega arith) in
      let room = p.room in
      let same_length = (put_read log (take k (bytes_of tag page)) (whole_of used) (omega arith)).1 in
      let w : whole_of (whole_of used + k) + 5 ≤ length (cut_at log used tag page k) = omega arith in
      rw (
        append_on (cut_at log used tag page k) (whole_of used + k) p.says
            (cut_held log used tag page second p k short) w tag' page' second',
        append_on log used p.says p.held p.room tag' page' second',
      ) (same_after (new_in_turn p.says tag' page'))

pub next_takes_its_place : NextTakesItsPlace
unfolding Same
next_takes_its_place log used tag page second k i short tag' page' second' =
    next-same log used tag page second (placed_there log used tag page second i) k short tag' page' second'

-- ---- room for the open pages
NotShort : LogCall → Type 0
NotShort c = eqb c.answer.number log_second_short ≡ false

pub room_is_enough : LogRoomIsEnough
unfolding NotShort append_of restart_of appended_of restarted_of logged_of compact_answer
room_is_enough log used second = (
  λ tag page room.
      log_cases log used second (λ x. appended_of x log used tag page second) (λ p. refl) NotShort (λ number place n m. m)
      (λ s h. let l = with_length s tag page in
      let r : 10 + 5 * (s.sent - s.finished) ≤ length second = rw (held_read log used s h) at room in
      let fits = le-leb (length (compacted_of s ++ bytes_of tag page)) (length second) (omega arith) in
      arms NotShort (new_in_turn s tag page) (λ t. arms NotShort (leb (whole_of used + 5) (length log)) (λ p. refl) (λ p. rw fits refl))
      (λ t. refl)),
  λ count room.
      log_cases log used second (λ x. restarted_of x log count second) (λ p. refl) NotShort (λ number place n m. m)
      (λ s h. let l = compacted_length (state count s.sent) in
      let r : 5 + 5 * (s.sent - count) ≤ length second = rw (held_read log used s h) at room in
      let fits = le-leb (length (compacted_of (state count s.sent))) (length second) (omega arith) in
      arms NotShort (leb s.finished count && leb count s.sent) (λ t. rw fits refl) (λ t. refl)),
)

pub compaction_says_the_same : CompactionSaysTheSame
unfolding records_of read_of
compaction_says_the_same finished sent ordered =
    ap log_reading_of (sym (append-nil (compacted_of (state finished sent)))) ∙ compacted_read (state finished sent) [] ordered

-- ---- what the log says after a call
held_says : (log : List ℕ) (used : ℕ) (s : State) → Held log used s
    → ((read_log_of log used).number ≡ 0) × ((read_log_of log used).finished ≡ s.finished) × ((read_log_of log used).sent ≡ s.sent)
held_says log used s h = let e = held_read log used s h in
    (ap (λ (l : Log). l.number) e, ap (λ (l : Log). l.finished) e, ap (λ (l : Log). l.sent) e)

outcome_says : (log : List ℕ) (used : ℕ) (s : State) (tag page : ℕ) (second : List ℕ) → Held log used s → {c : LogCall}
    → Outcome log used s tag page second c → eqb c.answer.number 0 ≡ true → SaysSo c used
outcome_says log used s tag page second h (refusal number after e) a = absurd (true≢false (sym a ∙ e))
outcome_says log used s tag page second h (placed turn room) a =
    held_says (put_of log (whole_of used) (bytes_of tag page)) (whole_of used + 5) (after_of s (record_as tag page))
    (put-held log used s h tag page turn room)
outcome_says log used s tag page second h (moved turn room) a =
    held_says (put_of second 0 (compacted_of s ++ bytes_of tag page)) (length (compacted_of s ++ bytes_of tag page))
    (after_of s (record_as tag page)) (moved-held log used s h tag page turn second room)

module _ (log : List ℕ) (used count : ℕ) (second : List ℕ) where
  Restarted : LogCall → Type 0
  Restarted c =
      eqb c.answer.number 0 ≡ true → SaysSo c used × (c.answer.finished ≡ count) × (c.answer.sent ≡ (read_log_of log used).sent)

  restart-says : (s : State) → Held log used s → Restarted (restarted_of (Ok s) log count second)
  unfolding Restarted restarted_of compact_answer
  restart-says s h =
      let now = state count s.sent in
      arms Restarted (leb s.finished count && leb count s.sent)
      (λ t. let high = leb-true count s.sent (both (leb s.finished count) _ t).1 in
      cases (leb (length (compacted_of now)) (length second))
      (λ r. simp r (λ a. (
        held_says (put_of second 0 (compacted_of now)) (length (compacted_of now)) now (restart_held now second high (leb-true _ _ r)),
        refl,
        sym (held_says log used s h).2,
      )))
      (λ r. simp r (λ a. absurd (true≢false (sym a)))))
      (λ t a. absurd (true≢false (sym a)))

pub log_says_so : LogSaysSo
unfolding append_of appended_of restart_of restarted_of Restarted
log_says_so log used second = (
  λ tag page. log_cases log used second (λ x. appended_of x log used tag page second) (λ p. refl)
      (λ (c : LogCall). eqb c.answer.number 0 ≡ true → SaysSo c used) (λ number place n m a. absurd (true≢false (sym a ∙ n)))
      (λ s h. outcome_says log used s tag page second h (said-outcome log used s tag page second)),
  λ count. log_cases log used second (λ x. restarted_of x log count second) (λ p. refl) (Restarted log used count second)
      (λ number place n m a. absurd (true≢false (sym a ∙ n))) (restart-says log used count second),
)
