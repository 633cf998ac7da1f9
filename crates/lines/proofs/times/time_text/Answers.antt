-- Two ends: a time near the row's date is compared, any other is divided. Both give the same text.
use Rattle.prelude.proofs.Logic.{◌≡◌, ap, ◌∙◌, ℕ, ◌-◌, ◌*◌, ◌/◌, ◌%◌, ℤ, nat_abs, arith, lit<, w64}
use Rattle.integers.proofs.Integers.{floor_rem, floored, read_back, read}
use Rattle.text.specs.Text.{digit_of}
use Rattle.lines.specs.Lines.{days_of, sign_of, time_text}
use Rattle.lines.specs.Since.{epoch}
use Rattle.lines.proofs.times.time_text.Goals as goal

pub two_digits-hour-requires : goal.two_digits-hour-requires
two_digits-hour-requires c =
    let h = (floored (read_back w64 c.args.time) 86400 (lit< tt)).below in omega (arith, h, c.compared-moment.ensures.2)

pub returns : goal.returns
unfolding time_text
returns c =
    let moment = c.compared-moment in
    let hour = c.two_digits-hour in
    let minute = c.two_digits-minute in
    let rest = c.second_digits-rest in
    let r = read w64 c.args.time c.ranges.time in
    let days = ap (days_of epoch) r in
    let s = moment.ensures.2 ∙ ap (λ (z : ℤ). floor_rem z 86400) r in
    let n : ℕ = moment.result.second in
    let m : n / 60 - 60 * (n / 3600) ≡ n / 60 % 60 = omega arith in
    let k : n - 60 * (n / 60) ≡ n % 60 = omega arith in
    let sign = moment.ensures.0 ∙ ap sign_of days in
    let size = moment.ensures.1 ∙ ap (λ (z : ℤ). digit_of (nat_abs z)) days in
    let h0 = hour.ensures.0 ∙ ap (λ (i : ℕ). digit_of (i / 3600 / 10)) s in
    let h1 = hour.ensures.1 ∙ ap (λ (i : ℕ). digit_of (i / 3600)) s in
    let m0 = minute.ensures.0 ∙ ap (λ (i : ℕ). digit_of (i / 10)) (m ∙ ap (λ (i : ℕ). i / 60 % 60) s) in
    let m1 = minute.ensures.1 ∙ ap digit_of (m ∙ ap (λ (i : ℕ). i / 60 % 60) s) in
    let r0 = rest.ensures.0 ∙ ap (λ (i : ℕ). digit_of (i / 10)) (k ∙ ap (λ (i : ℕ). i % 60) s) in
    let r1 = rest.ensures.1 ∙ ap digit_of (k ∙ ap (λ (i : ℕ). i % 60) s) in
    simp (sign, size, h0, h1, m0, m1, r0, r1)
