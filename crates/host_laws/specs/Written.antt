-- "writing what was read gives an order that every call answers as it answers the one that was read". Proved in proofs/WrittenLaws.
use Rattle.std.specs.Prelude.{ℕ, ◌≡◌, List}
use Rattle.order.specs.Reading.{town_of}
use Rattle.order_numbers.specs.Numbers.{order_numbers_of}
use Rattle.order_numbers.specs.Values.{encode}
use Rattle.order_laws.specs.EitherForm.{SameAnswers}

abbrev pub WrittenAnswersAlike : Type 0
WrittenAnswersAlike = (bytes : List ℕ) → (order_numbers_of bytes).refusal.number ≡ 0
    → SameAnswers bytes (encode (order_numbers_of bytes) (town_of bytes))
