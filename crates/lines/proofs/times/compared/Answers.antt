-- A time on the row's date or on a day beside it: comparisons with 0h give the day and the second that division gives.
use Rattle.prelude.proofs.Logic.{refl, pos, negsuc, w64}
use Rattle.integers.proofs.Ranges.{read_back, read}
use Rattle.lines.proofs.Moments as moments
use Rattle.lines.proofs.times.compared.Goals as goal

pub returns-then-time-ltminus86400 : goal.returns-then-time-ltminus86400
returns-then-time-ltminus86400 c =
    moments.told_by c.args.time (read_back w64 c.args.time) _ _ _ (read w64 c.args.time c.ranges.time) c.divided.ensures

pub second_from-requires : goal.second_from-requires
second_from-requires c =
    moments.within (negsuc 0) (pos 0) (negsuc 86399) (pos 0) (read_back w64 c.args.time) refl refl refl c.if-time-ltminus86400.false
    c.if-time-lt0.true

pub returns-then-time-lt0 : goal.returns-then-time-lt0
returns-then-time-lt0 c =
    moments.told (negsuc 0) (negsuc 86399) c.args.time (read_back w64 c.args.time) c.second_from.result
    (read w64 c.args.time c.ranges.time) refl c.second_from.ensures

pub second_from-requires-then-time-lt86400 : goal.second_from-requires-then-time-lt86400
second_from-requires-then-time-lt86400 c =
    moments.within (pos 0) (pos 1) (pos 0) (pos 86400) (read_back w64 c.args.time) refl refl refl c.if-time-lt0.false
    c.if-time-lt86400.true

pub returns-then-time-lt86400 : goal.returns-then-time-lt86400
returns-then-time-lt86400 c =
    moments.told (pos 0) (pos 0) c.args.time (read_back w64 c.args.time) c.second_from-then-time-lt86400.result
    (read w64 c.args.time c.ranges.time) refl c.second_from-then-time-lt86400.ensures

pub second_from-requires-then-time-lt172800 : goal.second_from-requires-then-time-lt172800
second_from-requires-then-time-lt172800 c =
    moments.within (pos 1) (pos 2) (pos 86400) (pos 172800) (read_back w64 c.args.time) refl refl refl
    c.if-time-lt86400.false c.if-time-lt172800.true

pub returns-then-time-lt172800 : goal.returns-then-time-lt172800
returns-then-time-lt172800 c =
    moments.told (pos 1) (pos 86400) c.args.time (read_back w64 c.args.time) c.second_from-then-time-lt172800.result
    (read w64 c.args.time c.ranges.time) refl c.second_from-then-time-lt172800.ensures

pub returns : goal.returns
returns c =
    let r = c.divided-2.result in
    moments.told_by c.args.time (read_back w64 c.args.time) r.sign r.days r.second
    (read w64 c.args.time c.ranges.time) c.divided-2.ensures
