-- Two histories of a host that does what the request asks: one acknowledgement lost, and one lost and a later one heard. Then other
-- conduct, under which the promise fails, each with a short history that breaks it. So `Kept` can fail, and each part of `as_requested` is
-- needed. Assumes nothing.
use Rattle.prelude.proofs.Logic.{◌≡◌, refl, ap, true, List, [], ◌∷◌, ◌++◌, ℕ, arith, leb, get_or, replicate}
use Rattle.text.specs.Text.{put_of}
use Rattle.joblog.specs.Records.{state, bytes_of, records_of, in_turn, after_of, read_of, open_of, compacted_of}
use Rattle.joblog.specs.Calls.{answered, read_log_of, read_answer, new_in_turn, compact_answer, logged_of, appended_of, append_of, restarted_of}
use Rattle.joblog.specs.Calls.{restart_of}
use Rattle.joblog_laws.specs.Run.{World, begun, Step, begins, byte, completes, goes, finishes, hears, lost, crash, restart}
use Rattle.joblog_laws.specs.Run.{HostConduct, acknowledged, as_requested, beginning, writing_byte, completing, finishing, arriving}
use Rattle.joblog_laws.specs.Run.{crash_used, is_idle, next, run}
use Rattle.joblog_laws.specs.Histories.{pages_to, KeptBy}

abbrev buffer : List ℕ
buffer = replicate 20 238

-- an append from its beginning on, byte by byte
abbrev started : ℕ → ℕ → List Step
started tag page = begins tag page [] ∷ byte ∷ byte ∷ byte ∷ byte ∷ []

abbrev appended : ℕ → ℕ → List Step
appended tag page = started tag page ++ (byte ∷ completes ∷ [])

-- where a history ends; unfolding this unfolds all that a run computes
pub ends : HostConduct → List Step → World
unfolding run next beginning writing_byte completing finishing arriving crash_used is_idle acknowledged put_of bytes_of records_of in_turn after_of
    read_of open_of compacted_of read_log_of read_answer new_in_turn compact_answer logged_of appended_of append_of restarted_of restart_of pages_to
ends conduct steps = run conduct (begun buffer) steps

-- ---- by the request: pages 1 and 2 go out and are finished, page 1's done is recorded, page 2's acknowledgement is lost, the host crashes
-- in the append of page 3's sent record, and after the restart page 3 goes out
one_lost : List Step
one_lost =
    appended 1 1 ++ (goes ∷ []) ++ appended 1 2 ++ (goes ∷ finishes ∷ finishes ∷ hears ∷ lost ∷ []) ++ appended 2 1 ++ started 1 3
    ++ (crash 0 19 ∷ restart buffer ∷ []) ++ appended 1 3 ++ (goes ∷ finishes ∷ [])

as_requested_lem : (ends as_requested one_lost).embosser.finished ≡ 1 ∷ 2 ∷ 3 ∷ []
unfolding ends one_lost
as_requested_lem = refl

-- page 1's acknowledgement is lost and page 2's is heard. It tells that both are finished, so both dones are recorded
pub later_heard : List Step
later_heard =
    appended 1 1 ++ (goes ∷ []) ++ appended 1 2 ++ (goes ∷ finishes ∷ finishes ∷ lost ∷ hears ∷ []) ++ appended 2 1 ++ appended 2 2

pub both_done : read_log_of (ends as_requested later_heard).host.log (ends as_requested later_heard).host.used ≡ answered 0 (state 2 2) 20
unfolding ends later_heard
both_done = refl

-- ---- the open pages after the last done go out again for any count: page 1, finished and not recorded as done, is finished twice
abbrev pub from_the_last_done : HostConduct
from_the_last_done = record { told = acknowledged; ready = leb; resume = λ done count. done; kept = λ tray. [] }

sent_again : List Step
sent_again = appended 1 1 ++ (goes ∷ finishes ∷ crash 0 0 ∷ restart buffer ∷ goes ∷ finishes ∷ [])

twice : (ends from_the_last_done sent_again).embosser.finished ≡ 1 ∷ 1 ∷ []
unfolding ends sent_again
twice = refl

pub not_from_the_last_done : KeptBy from_the_last_done → ⊥
unfolding ends sent_again
not_from_the_last_done h =
    let e : ◌≡◌ {A = ℕ} 1 2 = ap (λ (l : List ℕ). get_or l 1 0) (h buffer sent_again).in_order in
    omega arith

-- ---- the embosser keeps its tray when it reports its count: page 1, in the tray and sent again, is finished twice
abbrev pub keeps_its_tray : HostConduct
keeps_its_tray = record { told = acknowledged; ready = leb; resume = λ done count. count; kept = λ tray. tray }

in_the_tray : List Step
in_the_tray = appended 1 1 ++ (goes ∷ crash 1 0 ∷ restart buffer ∷ goes ∷ finishes ∷ finishes ∷ [])

twice_too : (ends keeps_its_tray in_the_tray).embosser.finished ≡ 1 ∷ 1 ∷ []
unfolding ends in_the_tray
twice_too = refl

pub not_with_its_tray : KeptBy keeps_its_tray → ⊥
unfolding ends in_the_tray
not_with_its_tray h =
    let e : ◌≡◌ {A = ℕ} 1 2 = ap (λ (l : List ℕ). get_or l 1 0) (h buffer in_the_tray).in_order in
    omega arith

-- ---- a done is recorded before its page is finished: the true count is then refused by 14
abbrev pub done_before_finished : HostConduct
done_before_finished = record { told = λ heard page. true; ready = leb; resume = λ done count. count; kept = λ tray. [] }

too_early : List Step
too_early = appended 1 1 ++ (goes ∷ []) ++ appended 2 1 ++ (crash 0 0 ∷ [])

refused_then : (restart_of (ends done_before_finished too_early).host.log
    (ends done_before_finished too_early).host.used 0 buffer).answer.number ≡ 14
unfolding ends too_early
refused_then = refl

pub not_done_before_finished : KeptBy done_before_finished → ⊥
unfolding ends too_early
not_done_before_finished h = let e : ◌≡◌ {A = ℕ} 14 0 = (h buffer too_early).accepted buffer in omega arith

-- ---- a page goes out before its sent record is whole: it is finished, so the count is over the log's sent pages and is refused by 14
abbrev pub goes_before_its_record : HostConduct
goes_before_its_record = record { told = acknowledged; ready = λ page sent. true; resume = λ done count. count; kept = λ tray. [] }

no_record : List Step
no_record = goes ∷ finishes ∷ crash 0 0 ∷ []

pub not_before_its_record : KeptBy goes_before_its_record → ⊥
unfolding ends no_record
not_before_its_record h = let e : ◌≡◌ {A = ℕ} 14 0 = (h buffer no_record).accepted buffer in omega arith
