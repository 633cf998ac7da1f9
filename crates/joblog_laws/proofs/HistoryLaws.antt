-- Request 6's promise, over every history. Assumes nothing.
use Rattle.prelude.proofs.Logic.{◌≡◌, sym, ap, subst, ◌∙◌, true, cond, List, [], ◌∷◌, ◌++◌, ℕ, zero, suc, ◌+◌, ◌-◌, ◌*◌}
use Rattle.prelude.proofs.Logic.{◌≤◌, arith, leb, length, length-append, le-leb, cases}
use Rattle.text.specs.Text.{put_of}
use Rattle.joblog.specs.{declared.records.State.State, Records.state, Records.compacted_of, declared.calls.Log.Log}
use Rattle.joblog.specs.Calls.{read_log_of, compact_answer, compacting_of}
use Rattle.prelude.specs.Lists.{listed}
use Rattle.joblog_laws.specs.Run.{idle, World, world, begun, goes, finishes, restart, as_requested, is_idle, finishing, next, run}
use Rattle.joblog_laws.specs.Histories.{pages_to, Kept, HistoriesAreKept, send_all, OpenPagesCome}
use Rattle.joblog.proofs.CompactLaws.{compacted_length}
use Rattle.joblog_laws.proofs.HeldLaws.{held_read, restart_held}
use Rattle.joblog_laws.proofs.PageLaws.{pages_front, listed_pages}
use Rattle.joblog_laws.proofs.StepLaws.{count, Inv, counted, held_now, count_between, restarted, restart_kept, run_kept, begun_kept}

-- ---- the request's promise follows
room_answer : (t : State) (place : ℕ) (log second : List ℕ)
    → (compacting_of t (compacted_of t) place log second).answer.number ≡ cond (leb (5 + 5 * (t.sent - t.finished)) (length second)) 0 12
unfolding compact_answer
room_answer t place log second =
    rw (compacted_length t) (cases (leb (5 + 5 * (t.sent - t.finished)) (length second)) (λ e. simp e) (λ e. simp e))

kept : (w : World) → Inv w → Kept w
kept w i =
    let n = count w in
    let r = held_read w.host.log w.host.used i.says (held_now w i) in
    let l = length-append w.embosser.finished w.embosser.tray in
    let c = counted w i in
    let order = pages_front w.embosser.finished w.embosser.tray i.last i.here in
    let whole : length (w.embosser.finished ++ w.embosser.tray) ≡ i.last = omega arith in
    let ahead = i.ahead in
    record {
      in_order = order;
      none_skipped = i.here ∙ ap pages_to (sym whole);
      next_out = λ up. i.out up ∙ sym whole;
      none_again = λ up.
          let o = i.out up in
          cases (listed w.embosser.finished (w.host.out + 1))
          (λ h. let m = listed_pages n (w.host.out + 1) (subst (λ (pages : List ℕ). listed pages (w.host.out + 1) ≡ true) order h) in
          absurd (omega arith))
          (λ h. h);
      readable = ap (λ (a : Log). a.number) r;
      behind = rw r i.behind;
      ahead = rw r (omega arith);
      accepted = λ second. rw (r, restarted w i second) (room_answer (state n i.says.sent) n w.host.log second);
    }

pub histories_are_kept : HistoriesAreKept
histories_are_kept buffer steps = kept (run as_requested (begun buffer) steps) (run_kept (begun buffer) (begun_kept buffer) steps)

-- ---- the open pages are finished
-- a host that runs and is not in an append
abbrev resting : (log : List ℕ) (used out : ℕ) (heard tray finished coming : List ℕ) → World
resting log used out heard tray finished coming =
    world (record { log = log; used = used; up = true; out = out; writing = idle; heard = heard })
    (record { tray = tray; finished = finished; coming = coming })

one_out : (log : List ℕ) (used out : ℕ) (heard finished coming : List ℕ) → out + 1 ≤ (read_log_of log used).sent
    → next as_requested (resting log used out heard [] finished coming) goes
    ≡ resting log used (out + 1) heard ((out + 1) ∷ []) finished coming
unfolding next is_idle
one_out log used out heard finished coming h = rw (le-leb (out + 1) (read_log_of log used).sent h)

sent_out : (k : ℕ) (log : List ℕ) (used out : ℕ) (heard finished coming : List ℕ) → out + k ≤ (read_log_of log used).sent
    → length (run as_requested (resting log used out heard [] finished coming) (send_all k)).embosser.finished ≡ length finished + k
unfolding run send_all next finishing
sent_out zero log used out heard finished coming h = omega arith
sent_out (suc k) log used out heard finished coming h =
    let a = length-append finished ((out + 1) ∷ []) in
    let l : length (finished ++ ((out + 1) ∷ [])) + k ≡ length finished + suc k = omega arith in
    ap (λ (w : World). length (run as_requested (next as_requested w finishes) (send_all k)).embosser.finished)
    (one_out log used out heard finished coming (omega arith))
    ∙ sent_out k log used (out + 1) heard (finished ++ ((out + 1) ∷ [])) (coming ++ ((out + 1) ∷ [])) (omega arith)
    ∙ l

restart_world : (w : World) (i : Inv w) (second : List ℕ) → length (compacted_of (state (count w) i.says.sent)) ≤ length second
    → next as_requested w (restart second)
    ≡ resting (put_of second 0 (compacted_of (state (count w) i.says.sent)))
    (length (compacted_of (state (count w) i.says.sent))) (count w) w.host.heard [] w.embosser.finished
    w.embosser.coming
unfolding next compact_answer
restart_world w i second room = rw (restarted w i second, le-leb _ _ room)

come : (w : World) (i : Inv w) (second : List ℕ) → 5 + 5 * (i.says.sent - count w) ≤ length second
    → (run as_requested (next as_requested w (restart second)) (send_all (i.says.sent - count w))).embosser.finished
    ≡ pages_to i.says.sent
come w i second room =
    let n = count w in
    let s = i.says.sent in
    let t = state n s in
    let b = count_between w i in
    let l = compacted_length t in
    let h = restart_held t second b.1 (omega arith) in
    let r = ap (λ (a : Log). a.sent) (held_read (put_of second 0 (compacted_of t)) (length (compacted_of t)) t h) in
    let e = restart_world w i second (omega arith) in
    let z = sent_out (s - n) (put_of second 0 (compacted_of t)) (length (compacted_of t)) n w.host.heard w.embosser.finished
    w.embosser.coming (omega arith) in
    let m : length (run as_requested (next as_requested w (restart second)) (send_all (s - n))).embosser.finished ≡ s = rw e (omega arith) in
    (kept (run as_requested (next as_requested w (restart second)) (send_all (s - n)))
    (run_kept (next as_requested w (restart second)) (restart_kept w i second) (send_all (s - n)))).in_order ∙ ap pages_to m

pub open_pages_come : OpenPagesCome
unfolding run
open_pages_come buffer steps second room =
    let w = run as_requested (begun buffer) steps in
    let i = run_kept (begun buffer) (begun_kept buffer) steps in
    let r = ap (λ (a : Log). a.sent) (held_read w.host.log w.host.used i.says (held_now w i)) in
    rw r (come w i second (rw r at room))
