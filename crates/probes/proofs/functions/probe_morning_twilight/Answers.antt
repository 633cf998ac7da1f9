use Rattle.prelude.proofs.Logic.{◌≡◌, ap, ◌∙◌, rules, w64}
use Rattle.integers.proofs.Ranges.{read_back, read}
use Rattle.ops.specs.Season.{season_adjusted_morning_twilight_of}
use Rattle.probes.proofs.functions.probe_morning_twilight.Goals as goal

pub returns : goal.returns
returns c =
    let t = c.before in
    let k : read_back w64 c.season_adjusted_morning_twilight.result ≡ c.season_adjusted_morning_twilight.result = search rules in
    k ∙ c.season_adjusted_morning_twilight.ensures ∙ ap (season_adjusted_morning_twilight_of t.args.latitude t.args.day
    t.args.year) (read w64 t.args.sunrise t.ranges.sunrise)
