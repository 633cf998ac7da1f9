-- Request 6's promise, for every history: "So, if the embosser's count is true, no finished page is sent again and none is skipped."
-- Proved in proofs/HistoryLaws. A step that the conduct does not allow changes nothing, so every list of steps is a history.
use Rattle.std.specs.Prelude.{ℕ, zero, suc, ◌+◌, ◌-◌, ◌*◌, ◌≤◌, ◌≡◌, true, false, cond, List, [], ◌∷◌, ◌++◌, leb, length}
use Rattle.refusals.specs.Refusals.{log_second_short}
use Rattle.joblog.specs.Calls.{read_log_of, restart_of}
use Rattle.prelude.specs.Lists.{listed}
use Rattle.joblog_laws.specs.Run.{World, begun, Step, goes, finishes, restart, HostConduct, as_requested, run}

-- 1, 2, .. n
unfoldable pub pages_to : ℕ → List ℕ
pages_to zero = []
pages_to (suc n) = pages_to n ++ (suc n ∷ [])

pub record Kept (w : World) : Type 0 where
  -- the embosser has finished the pages 1, 2, 3, .., in order and each once
  pub in_order : w.embosser.finished ≡ pages_to (length w.embosser.finished)
  -- with those in its tray they are 1, 2, 3, .. too: none is skipped and none is there twice
  pub none_skipped : w.embosser.finished ++ w.embosser.tray ≡ pages_to (length (w.embosser.finished ++ w.embosser.tray))
  -- the page that goes out next is the one after all of these
  pub next_out : w.host.up ≡ true → w.host.out ≡ length (w.embosser.finished ++ w.embosser.tray)
  -- and it is not finished
  pub none_again : w.host.up ≡ true → listed w.embosser.finished (w.host.out + 1) ≡ false
  -- the log can be read. Its finished pages are at most the count, and its sent pages at least the count with the tray
  pub readable : (read_log_of w.host.log w.host.used).number ≡ 0
  pub behind : (read_log_of w.host.log w.host.used).finished ≤ length w.embosser.finished
  pub ahead : length (w.embosser.finished ++ w.embosser.tray) ≤ (read_log_of w.host.log w.host.used).sent
  -- a restart with the true count is accepted, or refused by 12 if the second buffer has no room for one record and the open pages
  pub accepted : (second : List ℕ) → let count = length w.embosser.finished in
      (restart_of w.host.log w.host.used count second).answer.number
      ≡ cond (leb (5 + 5 * ((read_log_of w.host.log w.host.used).sent - count)) (length second)) 0 log_second_short

abbrev pub KeptBy : HostConduct → Type 0
KeptBy conduct = (buffer : List ℕ) (steps : List Step) → Kept (run conduct (begun buffer) steps)

abbrev pub HistoriesAreKept : Type 0
HistoriesAreKept = KeptBy as_requested

-- ---- and none is skipped for good: after any history, if there is a restart with room, and then each open page goes out and is finished,
-- every page that has a sent record in the log is finished
unfoldable pub send_all : ℕ → List Step
send_all zero = []
send_all (suc n) = goes ∷ finishes ∷ send_all n

abbrev pub OpenPagesCome : Type 0
OpenPagesCome = (buffer : List ℕ) (steps : List Step) (second : List ℕ)
    → let w = run as_requested (begun buffer) steps in
    let sent = (read_log_of w.host.log w.host.used).sent in
    let count = length w.embosser.finished in
    5 + 5 * (sent - count) ≤ length second → (run as_requested w (restart second ∷ send_all (sent - count))).embosser.finished ≡ pages_to sent
