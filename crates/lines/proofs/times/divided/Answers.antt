-- Any other time, by its day's number and its second of the day.
use Rattle.prelude.proofs.Logic.{◌≡◌, ap, ◌∙◌, ℤ, nat_abs, rules, w64}
use Rattle.integers.proofs.Integers.{floor_quot, floor_rem, read_back, read}
use Rattle.text.specs.Text.{digit_of}
use Rattle.lines.specs.Lines.{sign_of}
use Rattle.lines.proofs.Moments.{since_days}
use Rattle.lines.proofs.times.divided.Goals as goal

pub returns : goal.returns
returns c =
    let days = c.day_of-days in
    let r = read w64 c.args.time c.ranges.time in
    let k : read_back w64 days.result ≡ days.result = search rules in
    let d = k ∙ days.ensures ∙ ap (λ (z : ℤ). floor_quot z 86400) r ∙ since_days c.args.time in (
      c.sign.ensures ∙ ap sign_of d,
      c.digit.ensures ∙ ap digit_of (c.unsigned_abs.ensures.value ∙ ap nat_abs d),
      c.second_of_day.ensures ∙ ap (λ (z : ℤ). floor_rem z 86400) r,
    )
