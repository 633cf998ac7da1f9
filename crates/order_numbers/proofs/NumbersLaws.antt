-- If an order is read, the Isha interval is the record's. Assumes nothing.
use Rattle.std.specs.Prelude.{Ok}
use Rattle.prelude.proofs.Logic.{◌≡◌, sym, List, ℕ, arith, pos}
use Rattle.order_numbers.proofs.Reader.{Order, reading_of, read_accepted}
use Rattle.integers.proofs.PartsLaws.{natural}
use Rattle.order_numbers.specs.Numbers.{order_read, order_numbers_in, order_numbers_of}

module _ (s : List ℕ) (order : Order) (e : reading_of s ≡ Ok order) where
  -- an interval that is read is never below 0
  pub interval : pos (order_numbers_of s).isha_interval ≡ order.setting.parameters.isha_interval
  unfolding order_numbers_of order_numbers_in order_read
  interval =
      let z = order.setting.parameters.isha_interval in
      let from = (read_accepted s order e).parameters.isha_interval.from in
      rw e (sym (natural z (omega arith)))
