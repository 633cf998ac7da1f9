-- The invariant that every step of a run keeps. Assumes nothing.
use Rattle.prelude.proofs.Logic.{◌≡◌, refl, sym, ap, subst, ◌∙◌, Bool, true, false, cond, ◌&&◌, false≢true, List, [], ◌∷◌, ◌++◌}
use Rattle.prelude.proofs.Logic.{append_assoc, append-nil, ℕ, suc, ◌+◌, ◌≤◌, ◌<◌, arith, leb, ltb, eqb, length, take, drop, length-append}
use Rattle.prelude.proofs.Logic.{length-drop, take-append-drop, take-add, length-take-le, leb-true, ltb-true, arms, cases, both}
use Rattle.refusals.specs.Refusals.{log_second_short}
use Rattle.text.specs.Text.{put_of}
use Rattle.text.proofs.TextLaws.{put_behind, put_nothing}
use Rattle.joblog.specs.declared.records.State.{State}
use Rattle.joblog.specs.Records.{state, bytes_of, whole_of, records_of, read_of, compacted_of}
use Rattle.joblog.proofs.CompactLaws.{bytes_length}
use Rattle.joblog.specs.declared.calls.Log.{Log}
use Rattle.joblog.specs.Calls.{LogCall, answered, refused, read_log_of, compact_answer, compacting_of, append_of, restart_of}
use Rattle.joblog_laws.specs.Run.{Writing, idle, within, Host, World, world, begun, writes, has_heard, holds, may_send, Step}
use Rattle.joblog_laws.specs.Run.{begins, byte, completes, goes, finishes, hears, lost, crash, restart, acknowledged, as_requested}
use Rattle.joblog_laws.specs.Run.{log_after, in_place, may_append, beginning, with_byte, writing_byte, completing, may_be_used}
use Rattle.joblog_laws.specs.Run.{crash_used, is_idle, finishing, arriving, next, run}
use Rattle.joblog_laws.specs.Histories.{pages_to}
use Rattle.joblog_laws.proofs.HeldLaws.{Held, held_read, cut_log, Change, same, sent, done, Outcome, refusal, placed, moved}
use Rattle.joblog_laws.proofs.HeldLaws.{append-outcome, append-after, cut-now, cut-after, restart_outcome, restart_held}
use Rattle.joblog_laws.proofs.PageLaws.{pages_length, pages_front, first_page}

-- ---- during an append: `base` is the buffer when it began
pub record Within (base log : List ℕ) (used : ℕ) (s : State) (count tag page : ℕ) (c : LogCall) (k : ℕ) : Type 0 where
  pub second : List ℕ
  pub outcome : Outcome base used s tag page second c
  pub there : log ≡ cut_log base used c tag page k
  pub few : k ≤ 5
  pub told : tag ≡ 2 → page ≤ count

abbrev pub Flight : (base log : List ℕ) (used : ℕ) (s : State) (count : ℕ) → Writing → Type 0
Flight base log used s count idle = log ≡ base
Flight base log used s count (within tag page c k) = Within base log used s count tag page c k

flight_held : (base log : List ℕ) (used : ℕ) (s : State) (count : ℕ) (x : Writing) → Held base used s → Flight base log used s count x
    → Held log used s
flight_held base log used s count idle h f = subst (λ (l : List ℕ). Held l used s) (sym f) h
flight_held base log used s count (within tag page c k) h f =
    subst (λ (l : List ℕ). Held l used s) (sym f.there) (cut-now base used s tag page f.second h f.outcome k f.few)

flight_more : (base log : List ℕ) (used : ℕ) (s : State) (n m : ℕ) (x : Writing) → n ≤ m → Flight base log used s n x
    → Flight base log used s m x
flight_more base log used s n m idle h f = f
flight_more base log used s n m (within tag page c k) h f =
    record { second = f.second; outcome = f.outcome; there = f.there; few = f.few; told = λ two. let t = f.told two in omega arith }

-- ---- no page is later than page n
abbrev pub Below : ℕ → List ℕ → Type 0
Below n [] = Unit
Below n (page ∷ pages) = (page ≤ n) × Below n pages

below_acknowledged : (n : ℕ) (pages : List ℕ) (page : ℕ) → Below n pages → acknowledged pages page ≡ true → page ≤ n
unfolding acknowledged
below_acknowledged n [] page b h = absurd (false≢true h)
below_acknowledged n (p ∷ pages) page b h =
    cases (leb page p) (λ e. let q = leb-true page p e in let l = b.0 in omega arith)
    (λ e. below_acknowledged n pages page b.1 (rw e at h))

below_more : (n m : ℕ) (pages : List ℕ) → n ≤ m → Below n pages → Below m pages
below_more n m [] l b = tt
below_more n m (page ∷ pages) l b = let h = b.0 in (omega arith, below_more n m pages l b.1)

below_behind : (n page : ℕ) (pages : List ℕ) → Below n pages → page ≤ n → Below n (pages ++ (page ∷ []))
below_behind n page [] b h = (h, tt)
below_behind n page (p ∷ pages) b h = (b.0, below_behind n page pages b.1 h)

-- ---- what every step keeps
-- the embosser's count
abbrev pub count : World → ℕ
count w = length w.embosser.finished

pub record Inv (w : World) : Type 0 where
  pub says : State
  pub base : List ℕ
  pub held : Held base w.host.used says
  pub flight : Flight base w.host.log w.host.used says (count w) w.host.writing
  pub last : ℕ
  pub here : w.embosser.finished ++ w.embosser.tray ≡ pages_to last
  pub behind : says.finished ≤ count w
  pub ahead : last ≤ says.sent
  pub out : w.host.up ≡ true → w.host.out ≡ last
  -- an acknowledgement is of a finished page
  pub heard : Below (count w) w.host.heard
  pub coming : Below (count w) w.embosser.coming

-- the invariant with another host
abbrev HostInv : World → Host → Type 0
HostInv w h = Inv (world h w.embosser)

pub counted : (w : World) (i : Inv w) → count w + length w.embosser.tray ≡ i.last
counted w i =
    let l = pages_length i.last in
    let n = length-append w.embosser.finished w.embosser.tray in
    let e = ap length i.here in
    omega arith

pub held_now : (w : World) (i : Inv w) → Held w.host.log w.host.used i.says
held_now w i = flight_held i.base w.host.log w.host.used i.says (count w) w.host.writing i.held i.flight

-- a done is of a finished page, so the count stays between finished and sent
change_between : {s t : State} {tag page : ℕ} → Change s tag page t → (n : ℕ) → s.finished ≤ n → (tag ≡ 2 → page ≤ n)
    → (t.finished ≤ n) × (s.sent ≤ t.sent)
change_between same n h d = (h, omega arith)
change_between sent n h d = (h, omega arith)
change_between (done a b c) n h d = let k = d a in (omega arith, omega arith)

-- a step that changes the log and no page
log_kept : (w : World) (i : Inv w) {log : List ℕ} {used : ℕ} {writing : Writing} (s : State) (base : List ℕ) → Held base used s
    → Flight base log used s (count w) writing → s.finished ≤ count w → i.last ≤ s.sent
    → Inv (world (writes w.host log used writing) w.embosser)
log_kept w i s base h f b a =
    record {
      says = s;
      base = base;
      held = h;
      flight = f;
      last = i.last;
      here = i.here;
      behind = b;
      ahead = a;
      out = i.out;
      heard = i.heard;
      coming = i.coming;
    }

-- a step that changes pages or acknowledgements and not the log
pages_kept : (w : World) (i : Inv w) {heard tray finished coming : List ℕ} → count w ≤ length finished
    → finished ++ tray ≡ w.embosser.finished ++ w.embosser.tray
    → Below (length finished) heard → Below (length finished) coming
    → Inv (world (has_heard w.host heard) (record { tray = tray; finished = finished; coming = coming }))
pages_kept w i {finished = finished} more all h c =
    let b = i.behind in
    record {
      says = i.says;
      base = i.base;
      held = i.held;
      flight =
          flight_more i.base w.host.log w.host.used i.says (count w) (length finished) w.host.writing more i.flight;
      last = i.last;
      here = all ∙ i.here;
      behind = omega arith;
      ahead = i.ahead;
      out = i.out;
      heard = h;
      coming = c;
    }

-- the append that the host is in
in_flight : (w : World) (i : Inv w) {tag page : ℕ} {c : LogCall} {k : ℕ} → w.host.writing ≡ within tag page c k
    → Within i.base w.host.log w.host.used i.says (count w) tag page c k
in_flight w i e = subst (Flight i.base w.host.log w.host.used i.says (count w)) e i.flight

-- ---- an append begins
may_append_lem : (w : World) (i : Inv w) (tag page : ℕ) → may_append as_requested w.host tag page ≡ true → tag ≡ 2 → page ≤ count w
may_append_lem w i tag page h two =
    let k = both w.host.up (cond (eqb tag 2) (acknowledged w.host.heard page) true) h in
    below_acknowledged (count w) w.host.heard page i.heard (rw two at k.1)

no_bytes : (log : List ℕ) (used : ℕ) (c : LogCall) (tag page : ℕ) → used ≤ length log → log ≡ cut_log log used c tag page 0
no_bytes log used c tag page fits =
    arms (λ (x : List ℕ). log ≡ x) (in_place c) (λ b. sym (put_nothing log (whole_of used) (omega arith))) (λ b. refl)

begins_kept : (w : World) → Inv w → (x : Writing) → w.host.writing ≡ x → (tag page : ℕ) (second : List ℕ)
    → Inv (world (beginning as_requested w.host x tag page second) w.embosser)
unfolding beginning
begins_kept w i (within t p c k) e tag page second = i
begins_kept w i idle e tag page second =
    let h = held_now w i in
    let c = append_of w.host.log w.host.used tag page second in
    arms (HostInv w) (may_append as_requested w.host tag page)
    (λ m. log_kept w i i.says w.host.log h
    (record {
      second = second;
      outcome = append-outcome w.host.log w.host.used i.says tag page second h;
      there = no_bytes w.host.log w.host.used c tag page h.fits;
      few = omega arith;
      told = may_append_lem w i tag page m;
    }) i.behind i.ahead)
    (λ m. i)

-- ---- one byte more
byte_there : (base log : List ℕ) (used : ℕ) (s : State) (tag page : ℕ) (second : List ℕ) (c : LogCall) (k : ℕ)
    → Outcome base used s tag page second c
    → log ≡ cut_log base used c tag page k → k < 5 → in_place c ≡ true → with_byte log used tag page k ≡ cut_log base used c tag page (k + 1)
byte_there base log used s tag page second c k (refusal number after e) f short i = let z : ◌≡◌ {A = ℕ} 0 1 = cc in absurd (omega arith)
byte_there base log used s tag page second c k (moved turn room) f short i = let z : ◌≡◌ {A = ℕ} 0 1 = cc in absurd (omega arith)
byte_there base log used s tag page second c k (placed turn room) f short i =
    let bytes = bytes_of tag page in
    let n = bytes_length tag page in
    let l : length (take k bytes) ≡ k = length-take-le k bytes (omega arith) in
    let d = length-drop k bytes in
    let m : length (take 1 (drop k bytes)) ≡ 1 = length-take-le 1 (drop k bytes) (omega arith) in
    let at : whole_of used + k ≡ whole_of used + length (take k bytes) = omega arith in
    rw (f, at, take-add k 1 bytes) (put_behind base (take k bytes) (take 1 (drop k bytes)) (whole_of used) (omega arith))

byte_kept : (w : World) → Inv w → (x : Writing) → w.host.writing ≡ x → Inv (world (writing_byte w.host x) w.embosser)
unfolding writing_byte
byte_kept w i idle e = i
byte_kept w i (within tag page c k) e =
    let f = in_flight w i e in
    arms (HostInv w) (in_place c && ltb k 5)
    (λ t. let p = both (in_place c) (ltb k 5) t in
    let short = ltb-true k 5 p.1 in
    log_kept w i i.says i.base i.held
    (record {
      second = f.second;
      outcome = f.outcome;
      there = byte_there i.base w.host.log w.host.used i.says tag page f.second c k f.outcome f.there short p.0;
      few = omega arith;
      told = f.told;
    }) i.behind i.ahead)
    (λ t. i)

-- ---- the append completes
completes_kept : (w : World) → Inv w → (x : Writing) → w.host.writing ≡ x → Inv (world (completing w.host x) w.embosser)
unfolding completing
completes_kept w i idle e = i
completes_kept w i (within tag page c k) e =
    let f = in_flight w i e in
    let a = append-after i.base w.host.used i.says tag page f.second i.held f.outcome in
    let b = change_between a.how (count w) i.behind f.told in
    let h = i.ahead in
    arms (HostInv w) (in_place c && ltb k 5) (λ t. i) (λ t. log_kept w i a.to (log_after c) a.held refl b.0 (omega arith))

-- ---- a restart: the log says the count, and the tray is empty
pub count_between : (w : World) (i : Inv w) → (i.says.finished ≤ count w) × (count w ≤ i.says.sent)
count_between w i = let c = counted w i in let h = i.ahead in (i.behind, omega arith)

pub restarted : (w : World) (i : Inv w) (second : List ℕ)
    → restart_of w.host.log w.host.used (count w) second
    ≡ compacting_of (state (count w) i.says.sent) (compacted_of (state (count w) i.says.sent)) (count w) w.host.log second
restarted w i second =
    let b = count_between w i in
    restart_outcome w.host.log w.host.used i.says (held_now w i) (count w) second b.0 b.1

-- the log's finished pages are the count, and the tray is empty
begun_again : (w : World) (i : Inv w) (log : List ℕ) (used : ℕ) (up : Bool) (s : State) → Held log used s → s.finished ≤ count w
    → count w ≤ s.sent
    → Inv (world (record { log = log; used = used; up = up; out = count w; writing = idle; heard = w.host.heard })
    (holds w.embosser []))
begun_again w i log used up s h b a =
    record {
      says = s;
      base = log;
      held = h;
      flight = refl;
      last = count w;
      here = append-nil w.embosser.finished ∙ pages_front w.embosser.finished w.embosser.tray i.last i.here;
      behind = b;
      ahead = a;
      out = λ u. refl;
      heard = i.heard;
      coming = i.coming;
    }

pub restart_kept : (w : World) (i : Inv w) (second : List ℕ) → Inv (next as_requested w (restart second))
unfolding next compact_answer
restart_kept w i second =
    let b = count_between w i in
    let t = state (count w) i.says.sent in
    let text = compacted_of t in
    let after : Log → LogCall = λ answer. record { answer = answer; log = w.host.log; second = put_of second 0 text } in
    cases (leb (length text) (length second))
    (λ e. let c : restart_of w.host.log w.host.used (count w) second ≡ after (answered 1 t (length text)) =
    restarted w i second ∙ ap after (simp e) in
    rw c (begun_again w i (put_of second 0 text) (length text) true t (restart_held t second b.1 (leb-true _ _ e)) (omega arith) b.1))
    (λ e. let c : restart_of w.host.log w.host.used (count w) second ≡ after (refused log_second_short (count w)) =
    restarted w i second ∙ ap after (simp e) in
    rw c (begun_again w i w.host.log w.host.used false i.says (held_now w i) b.0 b.1))

-- ---- the embosser finishes a page, and a page goes out
finish_kept : (w : World) (tray : List ℕ) → w.embosser.tray ≡ tray → Inv w → Inv (world w.host (finishing w.embosser tray))
unfolding finishing
finish_kept w [] e i = i
finish_kept w (page ∷ rest) e i =
    let done = w.embosser.finished ++ (page ∷ []) in
    let n = length-append w.embosser.finished (page ∷ []) in
    let all : w.embosser.finished ++ (page ∷ rest) ≡ w.embosser.finished ++ w.embosser.tray =
    ap (λ (l : List ℕ). w.embosser.finished ++ l) (sym e) in
    let first = first_page w.embosser.finished page rest i.last (all ∙ i.here) in
    let more : (pages : List ℕ) → Below (count w) pages → Below (length done) pages =
    λ pages b. below_more (count w) (length done) pages (omega arith) b in
    pages_kept w i (omega arith) (append_assoc w.embosser.finished (page ∷ []) rest ∙ all) (more w.host.heard i.heard)
    (below_behind (length done) page w.embosser.coming (more w.embosser.coming i.coming) first)

-- ---- an acknowledgement is heard, or lost
arriving_kept : (w : World) (heard : List ℕ → ℕ → List ℕ)
    → ((n page : ℕ) (pages : List ℕ) → Below n pages → page ≤ n → Below n (heard pages page))
    → (coming : List ℕ) → w.embosser.coming ≡ coming → Inv w → Inv (arriving w heard coming)
unfolding arriving
arriving_kept w heard keeps [] e i = i
arriving_kept w heard keeps (page ∷ rest) e i =
    let b = subst (Below (count w)) e i.coming in
    pages_kept w i (omega arith) refl (keeps (count w) page w.host.heard i.heard b.0) b.1

goes_kept : (w : World) → Inv w → Inv (next as_requested w goes)
unfolding next pages_to
goes_kept w i =
    arms Inv (may_send as_requested w.host)
    (λ e. let j =
    both (w.host.up && is_idle w.host.writing) (leb (w.host.out + 1) (read_log_of w.host.log w.host.used).sent) e in
    let o : w.host.out ≡ i.last = i.out (both w.host.up (is_idle w.host.writing) j.0).0 in
    let l : leb (w.host.out + 1) i.says.sent ≡ true =
    rw (held_read w.host.log w.host.used i.says (held_now w i)) at j.1 in
    let m = leb-true (w.host.out + 1) i.says.sent l in
    let p : w.host.out + 1 ≡ suc i.last = omega arith in
    record {
      says = i.says;
      base = i.base;
      held = i.held;
      flight = i.flight;
      last = suc i.last;
      here = rw (← append_assoc w.embosser.finished w.embosser.tray ((w.host.out + 1) ∷ []), i.here, p);
      behind = i.behind;
      ahead = omega arith;
      out = λ u. p;
      heard = i.heard;
      coming = i.coming;
    })
    (λ e. i)

-- ---- a crash
-- what the log says after the crash
record Left (w : World) (s : State) (used : ℕ) : Type 0 where
  pub to : State
  pub held : Held w.host.log used to
  pub behind : to.finished ≤ count w
  pub ahead : s.sent ≤ to.sent

crash_left : (w : World) (i : Inv w) (u : ℕ) (x : Writing) → w.host.writing ≡ x → Left w i.says (crash_used w.host.used x u)
unfolding crash_used
crash_left w i u idle e = record { to = i.says; held = held_now w i; behind = i.behind; ahead = omega arith }
crash_left w i u (within tag page c k) e =
    let f = in_flight w i e in
    let used = cond (in_place c && may_be_used w.host.used k u) u w.host.used in
    let a = cut-after i.base w.host.used i.says tag page f.second i.held f.outcome k u f.few in
    let b = change_between a.how (count w) i.behind f.told in
    record { to = a.to; held = subst (λ (l : List ℕ). Held l used a.to) (sym f.there) a.held; behind = b.0; ahead = b.1 }

crash_kept : (w : World) → Inv w → (left u : ℕ) → Inv (next as_requested w (crash left u))
unfolding next
crash_kept w i left u =
    let front = w.embosser.finished ++ take left w.embosser.tray in
    let whole : front ++ drop left w.embosser.tray ≡ pages_to i.last =
    rw (append_assoc w.embosser.finished, take-append-drop left w.embosser.tray) i.here in
    let l = pages_length i.last in
    let n = length-append front (drop left w.embosser.tray) in
    let e = ap length whole in
    let a = i.ahead in
    let s = crash_left w i u w.host.writing refl in
    let b = s.ahead in
    record {
      says = s.to;
      base = w.host.log;
      held = s.held;
      flight = refl;
      last = length front;
      here = pages_front front (drop left w.embosser.tray) i.last whole;
      behind = s.behind;
      ahead = omega arith;
      out = λ up. let z : ◌≡◌ {A = ℕ} 0 1 = cc in absurd (omega arith);
      heard = tt;
      coming = i.coming;
    }

-- ---- every step
next_kept : (w : World) → Inv w → (step : Step) → Inv (next as_requested w step)
unfolding next
next_kept w i (begins tag page second) = begins_kept w i w.host.writing refl tag page second
next_kept w i byte = byte_kept w i w.host.writing refl
next_kept w i completes = completes_kept w i w.host.writing refl
next_kept w i goes = goes_kept w i
next_kept w i finishes = finish_kept w w.embosser.tray refl i
next_kept w i hears = arriving_kept w (λ heard page. page ∷ heard) (λ n page pages b h. (h, b)) w.embosser.coming refl i
next_kept w i lost = arriving_kept w (λ heard page. heard) (λ n page pages b h. b) w.embosser.coming refl i
next_kept w i (crash left u) = crash_kept w i left u
next_kept w i (restart second) = restart_kept w i second

pub run_kept : (w : World) → Inv w → (steps : List Step) → Inv (run as_requested w steps)
unfolding run
run_kept w i [] = i
run_kept w i (step ∷ steps) = run_kept (next as_requested w step) (next_kept w i step) steps

pub begun_kept : (buffer : List ℕ) → Inv (begun buffer)
unfolding pages_to records_of read_of
begun_kept buffer =
    record {
      says = state 0 0;
      base = buffer;
      held = record { fits = omega arith; reads = refl; ordered = omega arith };
      flight = refl;
      last = 0;
      here = refl;
      behind = omega arith;
      ahead = omega arith;
      out = λ u. refl;
      heard = tt;
      coming = tt;
    }
