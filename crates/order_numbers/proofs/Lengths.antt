-- How long the order's bytes are, and that the form of their fields is right. Assumes nothing.
use Rattle.prelude.proofs.Logic.{◌≡◌, refl, true, List, ℕ, ◌+◌, ◌≤◌, arith, leb, eqb, lit≤, length, length-append, length-take, cases, arms}
use Rattle.order_numbers.proofs.Reader.{no_refusal, length_fits, check_of}
use Rattle.order_numbers.specs.declared.numbers.Choices.{Choices}
use Rattle.order_numbers.specs.declared.numbers.OrderNumbers.{OrderNumbers}
use Rattle.order_numbers.specs.Bytes.{two_bytes, eight_bytes, float_bytes, field_bytes, joined}
use Rattle.order_numbers.specs.Values.{town_bytes, date_bytes, rows_bytes, minutes_bytes, ramadan_bytes, unsaid, ramadan_fields, fields_for}
use Rattle.order_numbers.specs.Values.{encode}
use Rattle.order_numbers.proofs.PutLaws.{rows_long}
use Rattle.order_numbers.proofs.Found.{rising, form_right}

ramadan_long : (c : Choices) → length (joined (ramadan_fields c)) ≤ 5
unfolding ramadan_fields ramadan_bytes joined field_bytes
ramadan_long c =
    cases (unsaid c) (λ t. simp t (lit≤ tt)) (λ t. cases (eqb c.ramadan 1) (λ u. simp (t, u) (lit≤ tt)) (λ u. simp (t, u) (lit≤ tt)))

-- 157 bytes, and one more if the town is too long
pub encoded_short : (n : OrderNumbers) (town : List ℕ) → length (encode n town) ≤ 117 + length (town_bytes town)
unfolding encode joined field_bytes date_bytes two_bytes eight_bytes float_bytes minutes_bytes
encoded_short n town = simp (length-append) (omega (arith, rows_long n.rows, ramadan_long n.choices))

-- ---- the form
rising_ramadan : (c : Choices) → rising 18 (ramadan_fields c) ≡ true
unfolding rising ramadan_fields ramadan_bytes length_fits
rising_ramadan c = cases (unsaid c) (λ t. simp t) (λ t. cases (eqb c.ramadan 1) (λ u. simp (t, u)) (λ u. simp (t, u)))

rows_fit_lem : (n : ℕ) → length_fits 3 (length (rows_bytes n)) ≡ true
unfolding rows_bytes two_bytes length_fits
rows_fit_lem n = arms (λ (x : List ℕ). length_fits 3 (length x) ≡ true) (leb n 250) (λ t. refl) (λ t. refl)

pub form_encoded : (n : OrderNumbers) (town : List ℕ) → length_fits 1 (length (town_bytes town)) ≡ true → check_of (encode n town) ≡ no_refusal
unfolding encode rising date_bytes two_bytes eight_bytes float_bytes minutes_bytes length_fits
form_encoded n town h =
    let l = encoded_short n town in
    let t = length-take 41 town in
    form_right (fields_for n town) (omega arith) (simp (h, rows_fit_lem n.rows, rising_ramadan n.choices))
