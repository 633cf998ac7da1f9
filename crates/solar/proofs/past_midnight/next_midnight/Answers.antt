use Rattle.prelude.proofs.Logic.{◌*◌, ◌<◌, rules}
use Rattle.solar.proofs.Cases.{midnight}
use Rattle.solar.proofs.past_midnight.next_midnight.Goals as goal

pub returns : goal.returns
returns c =
    let h : c.args.ahead * 86400 < 2147483648 = search rules in
    midnight c.args.ahead h
