-- The rows of days before each month, compared with the months' lengths by tests that antt computes. Assumes nothing.
use Rattle.prelude.proofs.Logic.{◌≡◌, refl, Bool, true, false, cond, not, ◌&&◌, ◌||◌, ℕ, zero, suc, ◌+◌, ◌-◌, ◌/◌, ◌≤◌, ◌<◌, arith, T}
use Rattle.prelude.proofs.Logic.{eqb, ltb, leb, eqb→eq, leb→le, ltb→lt, le→leb, lit≤, List·getD-eq-default, ltb-true, ltb-false, and_l}
use Rattle.prelude.proofs.Logic.{and_r, cases, sym, subst, le-leb, lt-leb, leb-true, leb-false}
use Rattle.calendar.specs.Gregorian.{lengths_of, length_of}
use Rattle.calendar.specs.Days.{month_starts_of, days_before_of, count_below, month_of}
use Rattle.prelude.proofs.Computed.{below, at, tested, when}

-- a year has at most 366 days
pub year_short : (leap : Bool) → cond leap 366 365 ≤ 366
year_short true = lit≤ tt
year_short false = lit≤ tt

-- ---- the days before a month are the sum of the months before it
pub before_next : (leap : Bool) (m : ℕ) → m < 12 → days_before_of leap (m + 1) ≡ days_before_of leap m + length_of leap m
unfolding days_before_of length_of
before_next leap m h =
    eqb→eq _ _ (tested (λ (b : Bool) (k : ℕ). eqb (days_before_of b (k + 1)) (days_before_of b k + length_of b k)) 12 tt leap m h)

pub before_january : (leap : Bool) → days_before_of leap 1 ≡ 0
unfolding days_before_of
before_january true = refl
before_january false = refl

pub before_none : (leap : Bool) → days_before_of leap 0 ≡ 0
unfolding days_before_of
before_none true = refl
before_none false = refl

pub before_december : (leap : Bool) → days_before_of leap 12 + 31 ≡ cond leap 366 365
unfolding days_before_of
before_december true = refl
before_december false = refl

pub length_january : (leap : Bool) → length_of leap 1 ≡ 31
unfolding length_of
length_january leap = refl

pub length_december : (leap : Bool) → length_of leap 12 ≡ 31
unfolding length_of
length_december leap = refl

length_none : (leap : Bool) → length_of leap 0 ≡ 0
unfolding length_of
length_none leap = refl

pub length_past : (leap : Bool) (m : ℕ) → 12 < m → length_of leap m ≡ 0
unfolding length_of
length_past leap m h = List·getD-eq-default (lengths_of leap) 0 h

pub before_past : (leap : Bool) (m : ℕ) → 12 < m → days_before_of leap m ≡ 0
unfolding days_before_of
before_past true m h = let k : 12 ≤ m - 1 = omega arith in List·getD-eq-default (month_starts_of true) 0 k
before_past false m h = let k : 12 ≤ m - 1 = omega arith in List·getD-eq-default (month_starts_of false) 0 k

pub length_least : (leap : Bool) (k : ℕ) → k < 12 → 28 ≤ length_of leap (k + 1)
unfolding length_of
length_least leap k h = leb→le 28 _ (tested (λ (b : Bool) (k : ℕ). leb 28 (length_of b (k + 1))) 12 tt leap k h)

pub month_has_28 : (leap : Bool) (m : ℕ) → 0 < m → m ≤ 12 → 28 ≤ length_of leap m
month_has_28 leap m p q =
    let k : m - 1 + 1 ≡ m = omega arith in
    subst (λ (i : ℕ). 28 ≤ length_of leap i) k (length_least leap (m - 1) (omega arith))

-- a day up to the 28th is in a month if the month is one of the twelve
pub exists_up_to_28 : (leap : Bool) (m d : ℕ) → 1 ≤ d → d ≤ 28 → (leb 1 m && leb m 12) ≡ leb d (length_of leap m)
exists_up_to_28 leap zero d p q = sym (lt-leb d (length_of leap 0) (omega (arith, length_none leap)))
exists_up_to_28 leap (suc k) d p q =
    cases (leb (suc k) 12)
    (λ e. let l = month_has_28 leap (suc k) (omega arith) (leb-true (suc k) 12 e) in
    rw (le-leb 1 (suc k) (omega arith), e, le-leb d (length_of leap (suc k)) (omega arith)))
    (λ e. let z = length_past leap (suc k) (leb-false (suc k) 12 e) in
    rw (le-leb 1 (suc k) (omega arith), e, lt-leb d (length_of leap (suc k)) (omega arith)))

-- a month that has days is one of the twelve, has at most 31 days, and ends within the year
pub record Month (leap : Bool) (m : ℕ) : Type 0 where
  pub first : 0 < m
  pub last : m ≤ 12
  pub long : length_of leap m ≤ 31
  pub room : days_before_of leap m + length_of leap m ≤ cond leap 366 365

month_test : Bool → ℕ → Bool
month_test leap m = leb (length_of leap m) 31 && leb (days_before_of leap m + length_of leap m) (cond leap 366 365)

pub month : (leap : Bool) (m d : ℕ) → 0 < d → d ≤ length_of leap m → Month leap m
unfolding month_test days_before_of length_of
month leap zero d p q = absurd (omega arith)
month leap (suc k) d p q =
    cases (ltb 12 (suc k)) (λ e. let z = length_past leap (suc k) (ltb-true 12 (suc k) e) in absurd (omega arith))
    (λ e. let l = ltb-false 12 (suc k) e in let t = tested month_test 13 tt leap (suc k) (omega arith) in
    record {
      first = omega arith;
      last = l;
      long = leb→le _ _ (and_l (leb (length_of leap (suc k)) 31) _ t);
      room = leb→le _ _ (and_r (leb (length_of leap (suc k)) 31) _ t);
    })

-- ---- the month of an ordinal
-- `month_of` of a date's ordinal is the date's month
find_test : Bool → ℕ → ℕ → Bool
find_test leap m d = not (leb 1 d) || (not (leb d (length_of leap m)) || eqb (month_of leap (days_before_of leap m + d)) m)

pub month_found : (leap : Bool) (m d : ℕ) → 0 < d → d ≤ length_of leap m → month_of leap (days_before_of leap m + d) ≡ m
unfolding find_test days_before_of length_of month_of count_below
month_found leap m d p q =
    let r = month leap m d p q in
    let t = at (find_test leap m) 32 (tested (λ (b : Bool) (k : ℕ). below (find_test b k) 32) 13 tt leap m (omega arith)) d (omega arith) in
    eqb→eq _ _ (when (leb d (length_of leap m)) _ (when (leb 1 d) _ t (le→leb 1 d p)) (le→leb d (length_of leap m) q))

-- each day of the year is in the month that `month_of` gives for it
pub record Place (leap : Bool) (n m : ℕ) : Type 0 where
  pub first : 0 < m
  pub last : m ≤ 12
  pub after : days_before_of leap m < n
  pub within : n ≤ days_before_of leap m + length_of leap m

place_test : Bool → ℕ → Bool
place_test leap n =
    let m = month_of leap n in
    not (leb 1 n) || (not (leb n (cond leap 366 365))
    || (ltb 0 m && leb m 12 && ltb (days_before_of leap m) n && leb n (days_before_of leap m + length_of leap m)))

pub month_place : (leap : Bool) (n : ℕ) → 0 < n → n ≤ cond leap 366 365 → Place leap n (month_of leap n)
unfolding place_test days_before_of length_of month_of count_below
month_place leap n p q =
    let m = month_of leap n in let a = ltb 0 m in let b = leb m 12 in let c = ltb (days_before_of leap m) n in
    let d = leb n (days_before_of leap m + length_of leap m) in
    let k = tested place_test 367 tt leap n (let y = year_short leap in omega arith) in
    let t : T (a && b && c && d) =
    when (leb n (cond leap 366 365)) _ (when (leb 1 n) _ k (le→leb 1 n p)) (le→leb n (cond leap 366 365) q) in
    record {
      first = ltb→lt 0 m (and_l a b (and_l (a && b) c (and_l (a && b && c) d t)));
      last = leb→le m 12 (and_r a b (and_l (a && b) c (and_l (a && b && c) d t)));
      after = ltb→lt (days_before_of leap m) n (and_r (a && b) c (and_l (a && b && c) d t));
      within = leb→le n (days_before_of leap m + length_of leap m) (and_r (a && b && c) d t);
    }

-- the days before an ordinal's month are at most the ordinal, also for 0
pub month_after : (leap : Bool) (n : ℕ) → n ≤ 366 → days_before_of leap (month_of leap n) ≤ n
unfolding days_before_of month_of count_below
month_after leap n h = leb→le _ _ (tested (λ (b : Bool) (k : ℕ). leb (days_before_of b (month_of b k)) k) 367 tt leap n (omega arith))

-- the code's search: the month if each had 32 days, or the next one
search_of : Bool → ℕ → ℕ
search_of leap n = let guess = n / 32 + 1 in cond (ltb guess 12 && ltb (days_before_of leap (guess + 1)) n) (guess + 1) guess

search_test : Bool → ℕ → Bool
search_test leap n = not (leb 1 n) || eqb (search_of leap n) (month_of leap n)

pub month_searched : (leap : Bool) (n : ℕ) → 0 < n → n ≤ 366 →
    (let guess = n / 32 + 1 in cond (ltb guess 12 && ltb (days_before_of leap (guess + 1)) n) (guess + 1) guess) ≡ month_of leap n
unfolding search_test search_of days_before_of month_of count_below
month_searched leap n p q = eqb→eq _ _ (when (leb 1 n) _ (tested search_test 367 tt leap n (omega arith)) (le→leb 1 n p))
