-- A time that 32 bits hold is rounded by a quotient, any other by its second.
use Rattle.prelude.proofs.Logic.{T, nat_abs, non_neg, pos-nat_abs, w32, Fits, ◌≡◌, sym, ap, ◌∙◌, pos, rules, w64, SFits}
use Rattle.integers.proofs.Integers.{read_back, read}
use Rattle.whole_minutes.specs.Times.{sat_of, rounded_of}
use Rattle.whole_minutes.proofs.TimesLaws.{sat_in}
use Rattle.whole_minutes.proofs.times.rounded_minute.Goals as goal
use Rattle.whole_minutes.proofs.times.rounded_minute.Goals.{Start}

pub returns-then-contains : goal.returns-then-contains
returns-then-contains c =
    let s = c.args in
    let t = read_back w64 s.t in
    let a : T (non_neg t) × Fits w32 (nat_abs t) = search rules in
    let e = c.rounded_short.ensures ∙ ap (rounded_of s.rounding) (pos-nat_abs t a.0 ∙ read w64 s.t c.ranges.t) in
    let f : SFits w64 (pos c.rounded_short.result) = search rules in
    read w64 (pos c.rounded_short.result) f ∙ sym (sat_in (pos c.rounded_short.result) f) ∙ ap sat_of e

pub returns : goal.returns
unfolding rounded_of
returns c =
    let s = c.before.before.before.before in
    let p : read_back w64 c.plus.result ≡ c.plus.result = search rules in
    let q : read_back w64 c.shift.result ≡ c.shift.result = search rules in
    p ∙ c.plus.ensures ∙ rw (q, c.shift.ensures, c.second.ensures, read w64 s.args.t s.ranges.t)
