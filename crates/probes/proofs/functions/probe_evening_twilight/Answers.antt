use Rattle.prelude.proofs.Logic.{◌≡◌, ap, ◌∙◌, ℤ, rules, w64}
use Rattle.integers.proofs.Ranges.{read_back, read}
use Rattle.ops.specs.Season.{season_adjusted_evening_twilight_of}
use Rattle.probes.proofs.functions.probe_evening_twilight.Goals as goal

pub returns : goal.returns
returns c =
    let t = c.before.before in
    let k : read_back w64 c.season_adjusted_evening_twilight.result ≡ c.season_adjusted_evening_twilight.result = search rules in
    k ∙ c.season_adjusted_evening_twilight.ensures
    ∙ ap (λ (z : ℤ). season_adjusted_evening_twilight_of t.args.latitude t.args.day t.args.year z c.of_number.result)
    (read w64 t.args.sunset t.ranges.sunset)
    ∙ ap (season_adjusted_evening_twilight_of t.args.latitude t.args.day t.args.year t.args.sunset)
    c.of_number.ensures
