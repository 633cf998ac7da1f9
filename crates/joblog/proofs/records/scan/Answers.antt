use Rattle.prelude.proofs.Logic.{refl, sym, ap, ◌∙◌, true, List, ℕ}
use Rattle.joblog.specs.Records.{state, read_of}
use Rattle.joblog.proofs.ScanLaws.{all_chunked, chunked, scan-next, scan-stop, scan-unknown, scan-end}
use Rattle.joblog.proofs.records.scan.Goals as goal

pub loop-i-init : goal.loop-i-init
loop-i-init c =
    ap (λ (cs : List (List ℕ)). read_of true (state 0 0) (chunked cs)) c.as_chunks.ensures.front
    ∙ ap (read_of true (state 0 0)) (all_chunked _ c.args.log.now refl)

pub loop-i-preserved : goal.loop-i-preserved
loop-i-preserved c =
    let l = c.loop-i in
    rw c.with-s.ensures
    (scan-next l.s l.i _ _ _ _ c.loop-i-test.true l.invariant c.read_record-r.ensures c.in-Some.kind c.in-Some.is (sym c.takes.ensures ∙ c.if-takes.true))

pub returns-in_default : goal.returns-in_default
returns-in_default c =
    let l = c.loop-i in
    scan-stop l.s l.i _ _ _ _ c.loop-i-test.true l.invariant c.read_record-r.ensures c.in-Some.kind c.in-Some.is (sym c.takes.ensures ∙ c.if-takes.false)

pub returns-in_default-2 : goal.returns-in_default-2
returns-in_default-2 c =
    let l = c.loop-i in
    scan-unknown l.s l.i _ _ _ _ c.loop-i-test.true l.invariant c.read_record-r.ensures c.in_default.is

pub returns : goal.returns
returns c = scan-end _ c.loop-i.s c.loop-i.i _ _ c.loop-i-test.false c.loop-i.invariant
