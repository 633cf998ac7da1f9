-- Document 02, request 11: "the earliest and latest Fajr by the clock .. and the first row having each", as a property of the rows.
use Rattle.std.specs.Prelude.{ℕ, ◌≤◌, ◌<◌, ◌≡◌, Bool, true, false, ℤ, None, Option, Some}
use Rattle.std.specs.Int.Signed.{lt_z}
use Rattle.weeks.specs.declared.window.Extremes.{Extremes}

-- among the rows from `first` to before `next`, `row` has `minute`: no row's is before it, and it is before that of each earlier row
pub record Best (before : ℤ → ℤ → Bool) (f : ℕ → Option ℤ) (first next : ℕ) (minute : ℤ) (row : ℕ) : Type 0 where
  pub from : first ≤ row
  pub to : row < next
  pub there : f row ≡ Some minute
  pub none_before : (r : ℕ) → r < next → first ≤ r → (m : ℤ) → f r ≡ Some m → before m minute ≡ false
  pub is_first : (r : ℕ) → r < row → first ≤ r → (m : ℤ) → f r ≡ Some m → before minute m ≡ true

abbrev pub earlier : ℤ → ℤ → Bool
earlier x y = lt_z x y

abbrev pub later : ℤ → ℤ → Bool
later x y = lt_z y x

pub record SomeRefused (f : ℕ → Option ℤ) (first next : ℕ) : Type 0 where
  pub row : ℕ
  pub from : first ≤ row
  pub to : row < next
  pub is : f row ≡ None

pub record RightWindow (f : ℕ → Option ℤ) (first next : ℕ) (x : Extremes) : Type 0 where
  pub none_refused : (r : ℕ) → r < next → first ≤ r → f r ≡ None → ⊥
  pub early : Best earlier f first next x.earliest x.earliest_row
  pub late : Best later f first next x.latest x.latest_row

-- a window is refused and one of its rows is, or it has the right rows and none is refused
abbrev pub Answers : (ℕ → Option ℤ) → ℕ → ℕ → Option Extremes → Type 0
Answers f first next None = SomeRefused f first next
Answers f first next (Some x) = RightWindow f first next x
