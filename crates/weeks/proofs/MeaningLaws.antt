-- Looking through a window row by row finds what is true of its rows. Assumes nothing.
use Rattle.std.specs.Prelude.{None, Option, Some}
use Rattle.prelude.proofs.Logic.{◌≡◌, refl, subst, Bool, true, false, cond, ℕ, zero, suc, ◌+◌, ◌≤◌, ◌<◌, arith, ℤ, lt_z}
use borrow.Author.Count.{below_more}
use Rattle.integers.proofs.OrderLaws.{lt_yes, lt_no, to_lt, to_not_lt}
use Rattle.weeks.specs.declared.window.{Extremes.Extremes}
use Rattle.weeks.specs.Windows.{extremes, begin_of, earlier_in, later_in, seen_of, look_of, window_of}
use Rattle.weeks.specs.Meaning.{Best, earlier, later, RightWindow, Answers}

same_minute : (x : Option ℤ) (m n : ℤ) → x ≡ Some m → x ≡ Some n → m ≡ n
same_minute x m n a b = cc

not_both : (x : Option ℤ) (m : ℤ) → x ≡ Some m → x ≡ None → ⊥
not_both x m a b = let z : ◌≡◌ {A = ℕ} 0 1 = cc in omega arith

module _ (before : ℤ → ℤ → Bool) (itself : (x : ℤ) → before x x ≡ false)
    (ahead : (x y z : ℤ) → before x y ≡ true → before z y ≡ false → before x z ≡ true)
    (behind : (x y z : ℤ) → before x y ≡ true → before z y ≡ false → before z x ≡ false) where
  best-begin : (f : ℕ → Option ℤ) (first : ℕ) (m : ℤ) → f first ≡ Some m → Best before f first (first + 1) m first
  best-begin f first m e =
      record {
        from = omega arith;
        to = omega arith;
        there = e;
        none_before =
            below_more (λ (r : ℕ). first ≤ r → (n : ℤ) → f r ≡ Some n → before n m ≡ false) first (λ r h g. absurd (omega arith))
            (λ g n d. subst (λ (x : ℤ). before x m ≡ false) (same_minute (f first) m n e d) (itself m));
        is_first = λ r h g. absurd (omega arith);
      }

  best-taken : (f : ℕ → Option ℤ) (first next row : ℕ) (b m : ℤ) → f next ≡ Some m → before m b ≡ true → Best before f first next b row
      → Best before f first (next + 1) m next
  best-taken f first next row b m e t k =
      record {
        from = let x = k.from in let y = k.to in omega arith;
        to = omega arith;
        there = e;
        none_before =
            below_more (λ (r : ℕ). first ≤ r → (n : ℤ) → f r ≡ Some n → before n m ≡ false) next
            (λ r h g n d. behind m b n t (k.none_before r h g n d))
            (λ g n d. subst (λ (x : ℤ). before x m ≡ false) (same_minute (f next) m n e d) (itself m));
        is_first = λ r h g n d. ahead m b n t (k.none_before r h g n d);
      }

  best-left : (f : ℕ → Option ℤ) (first next row : ℕ) (b m : ℤ) → f next ≡ Some m → before m b ≡ false → Best before f first next b row
      → Best before f first (next + 1) b row
  best-left f first next row b m e t k =
      record {
        from = k.from;
        to = let y = k.to in omega arith;
        there = k.there;
        none_before =
            below_more (λ (r : ℕ). first ≤ r → (n : ℤ) → f r ≡ Some n → before n b ≡ false) next (λ r h g n d. k.none_before r h g n d)
            (λ g n d. subst (λ (x : ℤ). before x b ≡ false) (same_minute (f next) m n e d) t);
        is_first = k.is_first;
      }

lt_itself : (x : ℤ) → lt_z x x ≡ false
lt_itself x = to_not_lt x x (omega arith)

lt_ahead : (x y z : ℤ) → lt_z x y ≡ true → lt_z z y ≡ false → lt_z x z ≡ true
lt_ahead x y z a b = let p = lt_yes x y a in let q = lt_no z y b in to_lt x z (omega arith)

lt_behind : (x y z : ℤ) → lt_z x y ≡ true → lt_z z y ≡ false → lt_z z x ≡ false
lt_behind x y z a b = let p = lt_yes x y a in let q = lt_no z y b in to_not_lt z x (omega arith)

gt_ahead : (x y z : ℤ) → lt_z y x ≡ true → lt_z y z ≡ false → lt_z z x ≡ true
gt_ahead x y z a b = let p = lt_yes y x a in let q = lt_no y z b in to_lt z x (omega arith)

gt_behind : (x y z : ℤ) → lt_z y x ≡ true → lt_z y z ≡ false → lt_z x z ≡ false
gt_behind x y z a b = let p = lt_yes y x a in let q = lt_no y z b in to_not_lt x z (omega arith)

-- ---- the first row
answers_begin : (f : ℕ → Option ℤ) (first : ℕ) (x : Option ℤ) → f first ≡ x → Answers f first (first + 1) (begin_of first x)
answers_begin f first None e = record { row = first; from = omega arith; to = omega arith; is = e }
answers_begin f first (Some m) e =
    record {
      none_refused =
          below_more (λ (r : ℕ). first ≤ r → f r ≡ None → ⊥) first (λ r h g. absurd (omega arith)) (λ g d. not_both (f first) m e d);
      early = best-begin earlier lt_itself lt_ahead lt_behind f first m e;
      late = best-begin later lt_itself gt_ahead gt_behind f first m e;
    }

-- ---- one row more
module _ (f : ℕ → Option ℤ) (first next : ℕ) (x : Extremes) (m : ℤ) (e : f next ≡ Some m) (k : RightWindow f first next x) where
  none_refused : (r : ℕ) → r < next + 1 → first ≤ r → f r ≡ None → ⊥
  none_refused = below_more (λ (r : ℕ). first ≤ r → f r ≡ None → ⊥) next k.none_refused (λ g z. not_both (f next) m e z)

  early-taken : lt_z m x.earliest ≡ true → Best earlier f first (next + 1) m next
  early-taken t = best-taken earlier lt_itself lt_ahead lt_behind f first next _ _ m e t k.early

  early-left : lt_z m x.earliest ≡ false → Best earlier f first (next + 1) x.earliest x.earliest_row
  early-left t = best-left earlier lt_itself lt_ahead lt_behind f first next _ _ m e t k.early

  late-taken : lt_z x.latest m ≡ true → Best later f first (next + 1) m next
  late-taken t = best-taken later lt_itself gt_ahead gt_behind f first next _ _ m e t k.late

  late-left : lt_z x.latest m ≡ false → Best later f first (next + 1) x.latest x.latest_row
  late-left t = best-left later lt_itself gt_ahead gt_behind f first next _ _ m e t k.late

  by_tests : (a b : Bool) → lt_z m x.earliest ≡ a → lt_z (cond a (extremes m next x.latest x.latest_row) x).latest m ≡ b
      → let u = cond a (extremes m next x.latest x.latest_row) x in
      RightWindow f first (next + 1) (cond b (extremes u.earliest u.earliest_row m next) u)
  by_tests true true s t = record { none_refused = none_refused; early = early-taken s; late = late-taken t }
  by_tests true false s t = record { none_refused = none_refused; early = early-taken s; late = late-left t }
  by_tests false true s t = record { none_refused = none_refused; early = early-left s; late = late-taken t }
  by_tests false false s t = record { none_refused = none_refused; early = early-left s; late = late-left t }

  right-step : RightWindow f first (next + 1) (later_in (earlier_in x next m) next m)
  unfolding earlier_in later_in
  right-step = by_tests _ _ refl refl

answers_step : (f : ℕ → Option ℤ) (first next : ℕ) (w : Option Extremes) (x : Option ℤ) → f next ≡ x → first ≤ next → Answers f first next w
    → Answers f first (next + 1) (seen_of w next x)
answers_step f first next None x e h k = record { row = k.row; from = k.from; to = let y = k.to in omega arith; is = k.is }
answers_step f first next (Some x) None e h k = record { row = next; from = h; to = omega arith; is = e }
answers_step f first next (Some x) (Some m) e h k = right-step f first next x m e k

answers_look : (f : ℕ → Option ℤ) (first : ℕ) (w : Option Extremes) (row k last : ℕ) → last ≡ row + k → first ≤ row → Answers f first row w
    → Answers f first last (look_of f w row k)
answers_look f first w row zero last e h a = subst (λ (n : ℕ). Answers f first n w) (omega arith) a
answers_look f first w row (suc k) last e h a =
    answers_look f first (seen_of w row (f row)) (row + 1) k last (omega arith) (omega arith) (answers_step f first row w (f row) refl h a)

-- a window is refused if one of its seven rows is; else it has the earliest, the latest and the first row of each
pub window_answers : (f : ℕ → Option ℤ) (first : ℕ) → Answers f first (first + 7) (window_of f first)
unfolding window_of
window_answers f first =
    answers_look f first (begin_of first (f first)) (first + 1) 6 (first + 7) (omega arith) (omega arith)
    (answers_begin f first (f first) refl)
