-- The stored shift is a byte, so the shift, which is one less, fits an i32.
use Rattle.prelude.proofs.Logic.{◌≡◌, sym, ℕ, ◌<◌, arith, pos, ◌-ℤ◌, w32, SFits, to_z}
use Rattle.fields.specs.Values.{given_by}
use Rattle.integers.proofs.Integers.{fits, read_back, read, difference}
use Rattle.order.specs.Given.{ramadan_given, ramadan_in}
use Rattle.order.proofs.GivenLaws.{had, lacked}
use Rattle.order.proofs.given.ramadan_in.Goals as goal

module _ (n : ℕ) (h : n < 256) where
  seen : to_z w32 n ≡ pos n
  seen = read w32 (pos n) (record { sfits = omega arith })

  less : SFits w32 (pos n -ℤ pos 1)
  less = let d = difference (pos n) (pos 1) in fits w32 (pos n -ℤ pos 1) (omega (arith, d.0, d.1)) (omega (arith, d.0, d.1))

  less-fits : SFits w32 (to_z w32 n -ℤ pos 1)
  less-fits = rw seen less

  less-read : read_back w32 (to_z w32 n -ℤ pos 1) ≡ pos n -ℤ pos 1
  less-read = rw seen (read w32 (pos n -ℤ pos 1) less)

pub overflow_sub-result : goal.overflow_sub-result
overflow_sub-result c = less-fits c.byte-in-Some.result c.byte-in-Some.ensures.upper_bound

pub returns-in-Some : goal.returns-in-Some
unfolding ramadan_in ramadan_given
returns-in-Some c =
    let h = had (given_by c.args.given) 20 _ c.in-Some.ensures in
    simp (
      less-read c.byte-in-Some.result c.byte-in-Some.ensures.upper_bound,
      sym c.byte-in-Some.ensures.value,
      sym c.byte.ensures.value,
      sym h.1,
      h.0,
    )

pub returns-in-None : goal.returns-in-None
unfolding ramadan_in
returns-in-None c = let h = lacked (given_by c.args.given) 20 c.in-None.ensures in simp h
