-- The f64 products of the Julian Day, cut to whole numbers, are quotients of whole numbers for every year and month in use. Two tests that
-- antt computes prove it. Assumes nothing.
use Rattle.prelude.proofs.Logic.{◌≡◌, sym, ap, ◌∙◌, Bool, ◌&&◌, ℕ, ◌+◌, ◌-◌, ◌≤◌, ◌<◌, arith, T, eqb, eqb→eq, ℤ, pos, nat_abs, non_neg}
use Rattle.prelude.proofs.Logic.{pos-nat_abs, and_l, and_r}
use Rattle.float64.proofs.Floats.{add, mul, of_int, to_signed, round, dec}
use Rattle.prelude.proofs.Computed.{below, at}
use Rattle.julian.specs.Julian.{cut_of, year_product_of, month_product_of}
use Rattle.julian.specs.Meeus.{year_days_of, month_term_of}

is : ℤ → ℕ → Bool
is z n = non_neg z && eqb (nat_abs z) n

is_pos : (z : ℤ) (n : ℕ) → T (is z n) → z ≡ pos n
unfolding is
is_pos z n t =
    sym (pos-nat_abs z (and_l (non_neg z) (eqb (nat_abs z) n) t)) ∙ ap pos (eqb→eq (nat_abs z) n (and_r (non_neg z) (eqb (nat_abs z) n) t))

-- a product, cut, for the `count` numbers from `first` on
cut_table : (product : ℕ → ℤ) (whole : ℕ → ℕ) (first count : ℕ) → T (below (λ (k : ℕ). is (product (k + first)) (whole (k + first))) count)
    → (n : ℕ) → first ≤ n → n < first + count → product n ≡ pos (whole n)
cut_table product whole first count t n p q =
    let e : n - first + first ≡ n = omega arith in
    rw e at (is_pos (product (n - first + first)) (whole (n - first + first)) (at _ count t (n - first) (omega arith)))

pub year_cut : (y : ℕ) → 1898 ≤ y → y ≤ 2204 → cut_of (year_product_of (pos y)) ≡ pos (year_days_of y)
unfolding is year_product_of to_signed mul add of_int dec round
year_cut y p q = cut_table (λ (y : ℕ). cut_of (year_product_of (pos y))) year_days_of 1898 307 tt y p (omega arith)

pub month_cut : (m : ℕ) → 3 ≤ m → m ≤ 14 → cut_of (month_product_of (pos m)) ≡ pos (month_term_of m)
unfolding is month_product_of to_signed mul add of_int dec round
month_cut m p q = cut_table (λ (m : ℕ). cut_of (month_product_of (pos m))) month_term_of 3 12 tt m p (omega arith)
