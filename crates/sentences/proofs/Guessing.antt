-- The code looks for a sentence's number and place where they are; a place has ten digits at most. Assumes nothing.
use Rattle.prelude.proofs.Logic.{◌≡◌, refl, ap, subst, ◌∙◌, true, cond, List, [], ◌∷◌, ◌++◌, ℕ, zero, suc, ◌+◌, ◌-◌, ◌*◌, ◌/◌, ◌^◌, ◌≤◌}
use Rattle.prelude.proofs.Logic.{◌<◌, pow-suc, div-lt_iff_lt-mul, arith, ltb, length, List·getD-append, lt-ltb, le-leb, ltb-true, cases}
use Rattle.text.specs.Text.{ascii, digit_of, digits_of, decimal_of}
use Rattle.text.proofs.TextLaws.{digits_short}
use Rattle.sentences.specs.Guess.{is_digit, number_in, none, longer, place_in}

pub number_append : (t r : List ℕ) → 10 ≤ length t → number_in (t ++ r) ≡ number_in t
unfolding number_in
number_append t r h =
    let a = List·getD-append t r 0 8 (omega arith) in let b = List·getD-append t r 0 9 (omega arith) in
    rw (a, b)

-- ---- ten digits are enough below 2^32: one digit more than a number has changes nothing
more : (k n : ℕ) → n < 10 ^ suc k → digits_of (suc k) n ≡ digits_of (suc (suc k)) n
unfolding digits_of
more zero n h = rw (lt-ltb n 10 (omega arith))
more (suc k) n h =
    let below : n < 10 ^ suc k * 10 = subst (λ (m : ℕ). n < m) (pow-suc 10 (suc k)) h in
    ap (λ (l : List ℕ). cond (ltb n 10) (digit_of n ∷ []) (l ++ (digit_of n ∷ [])))
    (more k (n / 10) ((div-lt_iff_lt-mul (omega arith)).1 below))

abbrev up : ℕ → ℕ → ℕ
up zero k = k
up (suc j) k = up j (suc k)

much_more : (j k n : ℕ) → n < 10 ^ suc k → digits_of (suc k) n ≡ digits_of (suc (up j k)) n
much_more zero k n h = refl
much_more (suc j) k n h = more k n h ∙ much_more j (suc k) n (omega arith)

pub ten_digits : (n : ℕ) → n < none → length (decimal_of n) ≤ 10
ten_digits n h = subst (λ (l : List ℕ). length l ≤ 10) (much_more 10 9 n (omega arith)) (digits_short 10 n)

-- ---- the number at the end
is_digit_lem : (b : ℕ) → 48 ≤ b → b ≤ 57 → is_digit b ≡ true
is_digit_lem b l h = rw (le-leb 48 b l, le-leb b 57 h)

last_digit : (v n : ℕ) → v ≡ n / 10 → n < none → longer v (digit_of n) ≡ n
last_digit v n e h =
    let d : 10 * v + (digit_of n - 48) ≡ n = omega arith in
    rw (is_digit_lem (digit_of n) (omega arith) (omega arith), d, lt-ltb n none h)

place_append : (xs ys : List ℕ) (v : ℕ) → place_in v (xs ++ ys) ≡ place_in (place_in v xs) ys
unfolding place_in
place_append [] ys v = refl
place_append (x ∷ xs) ys v = place_append xs ys (longer v x)

digits_back : (k n : ℕ) → n < 10 ^ suc k → n < none → place_in 0 (digits_of (suc k) n) ≡ n
unfolding digits_of place_in
digits_back zero n h f = rw (lt-ltb n 10 (omega arith)) (last_digit 0 n (omega arith) f)
digits_back (suc k) n h f =
    let below : n < 10 ^ suc k * 10 = subst (λ (m : ℕ). n < m) (pow-suc 10 (suc k)) h in
    cases (ltb n 10) (λ e. let l = ltb-true n 10 e in rw e (last_digit 0 n (omega arith) f))
    (λ e. rw e (place_append (digits_of (suc k) (n / 10)) (digit_of n ∷ []) 0
    ∙ ap (λ (v : ℕ). longer v (digit_of n)) (digits_back k (n / 10) ((div-lt_iff_lt-mul (omega arith)).1 below) (omega arith))
    ∙ last_digit (n / 10) n refl f))

-- the blank starts the place again, so the words do not matter
pub place_back : (words : List ℕ) (p : ℕ) → p < none → place_in 0 (words ++ ascii " " ++ decimal_of p) ≡ p
unfolding place_in
place_back words p h =
    place_append (words ++ ascii " ") (decimal_of p) 0
    ∙ ap (λ (v : ℕ). place_in v (decimal_of p)) (place_append words (ascii " ") 0)
    ∙ digits_back 19 p (omega arith) h
