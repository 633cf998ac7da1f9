-- The bytes of each value are read as that value, if it or the value read is in range. Assumes nothing.
use Rattle.prelude.proofs.Logic.{◌≡◌, refl, sym, ap, subst, ◌∙◌, Bool, true, false, not, cond, ◌&&◌, ◌||◌, List, ℕ, ◌≤◌, ◌<◌, arith, T}
use Rattle.prelude.proofs.Logic.{and_l, and_r, leb, ltb, eqb, ℤ, pos, le_z, length, take_all, length-take, le-leb, leb-true, eqb-true}
use Rattle.prelude.proofs.Logic.{eqb→eq, ltb→lt, cases, both, lit<, lit≤}
use Rattle.prelude.proofs.Computed.{below, at, when}
use Rattle.order_numbers.proofs.Reader.{P, N, Near, same, le_yes, Date, date_of, exists_yes, month_of_date, unsigned_of, signed_at_of}
use Rattle.order_numbers.proofs.Reader.{with_sign, column, last_tag, longest_town, choice_fits, column_small, Ramadan, TimeAdjustment}
use Rattle.order_numbers.proofs.Reader.{Prayer, Fajr, Sunrise, Dhuhr, Asr, Maghrib, Isha, minutes_for, date_in, rows_in, minutes_in}
use Rattle.order_numbers.proofs.Reader.{ramadan_given, last_year, most_rows, most_minutes, most_imsak, DateInOrder}
use Rattle.order_numbers.specs.declared.numbers.Choices.{Choices}
use Rattle.order_numbers.specs.Numbers.{set_number_of}
use Rattle.order_numbers.specs.Bytes.{up_to, byte_for, word_for, two_bytes, sixteen_for}
use Rattle.order_numbers.specs.Values.{town_bytes, date_bytes, rows_bytes, minutes_bytes, ramadan_bytes, unsaid}
use Rattle.order_numbers.proofs.KindLaws.{Kept, unsigned, two_back, word, sixteen, shift}

pub town_held : (town : List ℕ) → length (town_bytes town) ≤ longest_town → town_bytes town ≡ town
town_held town h = let l = length-take 41 town in take_all 41 town (omega arith)

-- ---- the date
date_read : (d : Date) → date_in (date_bytes d) ≡ date_of (word_for d.year) (byte_for d.month) (byte_for d.day)
unfolding date_in date_bytes two_bytes unsigned_of
date_read d = ap (λ (y : ℕ). date_of y (byte_for d.month) (byte_for d.day)) (two_back (word_for d.year))

record Small (d : Date) : Type 0 where
  year : d.year ≤ last_year
  month : d.month ≤ 12
  day : d.day ≤ 31

small : (d : Date) → DateInOrder d → Small d
small d h =
    let e = exists_yes d h.there in
    let m = month_of_date d e in
    record { year = h.to; month = m.last; day = omega (arith, e.to, m.long) }

pub date : (d : Date) → Kept DateInOrder (date_in (date_bytes d)) d
date d =
    let year = unsigned last_year 65535 d.year (lit< tt) in
    let month = unsigned 12 255 d.month (lit< tt) in
    let day = unsigned 31 255 d.day (lit< tt) in
    record {
      held = λ h. let s = small _ (subst DateInOrder (date_read d) h) in
          date_read d ∙ (λ i. record { year = year.held s.year i; month = month.held s.month i; day = day.held s.day i });
      is = λ h. let s = small d h in
          date_read d ∙ (λ i. record { year = year.is s.year i; month = month.is s.month i; day = day.is s.day i });
    }

-- ---- the rows
pub rows : (n : ℕ) → Kept (λ (m : ℕ). m ≤ most_rows) (rows_in (rows_bytes n)) n
unfolding rows_in rows_bytes two_bytes
rows n =
    cases (leb n 250) (λ t. simp t (record { held = λ h. refl; is = λ h. refl })) (λ t. simp t (word most_rows n (lit< tt)))

-- ---- the six minutes
abbrev again : ℤ → ℤ
again z = with_sign (sixteen_for (P z) (N z))

abbrev each : (ℤ → ℤ) → TimeAdjustment → TimeAdjustment
each f m = record {
  fajr = f m.fajr;
  sunrise = f m.sunrise;
  dhuhr = f m.dhuhr;
  asr = f m.asr;
  maghrib = f m.maghrib;
  isha = f m.isha;
}

minutes_read : (m : TimeAdjustment) → minutes_in (minutes_bytes m) ≡ each again m
unfolding minutes_in minutes_bytes signed_at_of unsigned_of two_bytes
minutes_read m = λ i. each (λ z. with_sign (two_back (sixteen_for (P z) (N z)) i)) m

abbrev Own : TimeAdjustment → Type 0
Own m = (prayer : Prayer) → Near most_minutes (minutes_for prayer m)

same_each : (m : TimeAdjustment) (P : ℤ → Type 0) → ((z : ℤ) → P z → again z ≡ z) → P m.fajr → P m.sunrise → P m.dhuhr → P m.asr
    → P m.maghrib → P m.isha → each again m ≡ m
same_each m P f a b c d e g = λ i. record {
  fajr = f m.fajr a i;
  sunrise = f m.sunrise b i;
  dhuhr = f m.dhuhr c i;
  asr = f m.asr d i;
  maghrib = f m.maghrib e i;
  isha = f m.isha g i;
}

pub minutes : (m : TimeAdjustment) → Kept Own (minutes_in (minutes_bytes m)) m
unfolding minutes_for
minutes m =
    let one : (z : ℤ) → Kept (Near most_minutes) (again z) z = λ z. sixteen most_minutes z (lit< tt) in
    record {
      held = λ h. let o : Own (each again m) = subst Own (minutes_read m) h in
          minutes_read m ∙ same_each m (λ z. Near most_minutes (again z)) (λ z. (one z).held) (o Fajr) (o Sunrise) (o Dhuhr) (o Asr)
          (o Maghrib) (o Isha);
      is = λ o. minutes_read m
          ∙ same_each m (Near most_minutes) (λ z. (one z).is) (o Fajr) (o Sunrise) (o Dhuhr) (o Asr) (o Maghrib) (o Isha);
    }

-- ---- a choice: f reads its number and gives the choice's number. The rule is tested for every byte.
abbrev choice_back : ℕ → (ℕ → ℕ) → ℕ → Bool
choice_back tag f b = not (choice_fits tag b) || (eqb (f b) b && ltb b 255)

pub choice_small : (tag n : ℕ) → choice_fits tag n ≡ true → n ≤ 255
unfolding choice_fits
choice_small tag n h =
    let most = (both (leb (column tag 2) n) _ (both (leb tag last_tag) _ h).1).1 in
    omega (arith, leb-true n (column tag 3) most, column_small tag 3)

-- a number in range is a byte, and the byte is the number
pub choice_is : (tag n : ℕ) → choice_fits tag n ≡ true → choice_fits tag (byte_for n) ≡ true
unfolding up_to
choice_is tag n h = simp (le-leb n 255 (choice_small tag n h)) h

byte_small : (n : ℕ) → byte_for n < 256
unfolding up_to
byte_small n = cases (leb n 255) (λ t. simp t (let l = leb-true n 255 t in omega arith)) (λ t. simp t (lit≤ tt))

pub choice : (tag : ℕ) (f : ℕ → ℕ) → T (below (choice_back tag f) 256) → (n : ℕ) → choice_fits tag (byte_for n) ≡ true → f (byte_for n) ≡ n
choice tag f t n fits =
    let b = byte_for n in
    let told = when (choice_fits tag b) _ (at (choice_back tag f) 256 t b (byte_small n)) (subst T (sym fits) tt) in
    let itself = eqb→eq (f b) b (and_l (eqb (f b) b) (ltb b 255) told) in
    let small = ltb→lt b 255 (and_r (eqb (f b) b) (ltb b 255) told) in
    itself ∙ (unsigned 254 255 n (lit< tt)).held (omega arith)

-- ---- Ramadan: what the field of tag 20 is read as, if it is there
abbrev no_ramadan : Ramadan
no_ramadan = record { set = false; imsak = 0; shift = pos 0 }

abbrev pub ramadan_again : Bool → Choices → Ramadan
ramadan_again none c = cond none no_ramadan (ramadan_given (ramadan_bytes c))

pub record RamadanTold (c : Choices) (r : Ramadan) : Type 0 where
  pub ramadan : set_number_of r.set ≡ c.ramadan
  pub imsak : r.imsak ≡ c.imsak
  pub shift : r.shift ≡ c.shift

zero_told : (z : ℤ) → le_z z (pos 0) ≡ true → le_z (pos 0) z ≡ true → z ≡ pos 0
zero_told z low high = let l = le_yes z (pos 0) low in let h = le_yes (pos 0) z high in same z (pos 0) (omega arith)

unsaid_told : (c : Choices) → unsaid c ≡ true → RamadanTold c no_ramadan
unfolding unsaid set_number_of
unsaid_told c t =
    let last = both (eqb c.ramadan 0 && eqb c.imsak 0 && le_z c.shift (pos 0)) _ t in
    let third = both (eqb c.ramadan 0 && eqb c.imsak 0) _ last.0 in
    let two = both (eqb c.ramadan 0) _ third.0 in
    record {
      ramadan = sym (eqb-true c.ramadan 0 two.0);
      imsak = sym (eqb-true c.imsak 0 two.1);
      shift = sym (zero_told c.shift third.1 last.1);
    }

pub ramadan_held : (c : Choices) → (ramadan_again (unsaid c) c).imsak ≤ most_imsak → Near 1 (ramadan_again (unsaid c) c).shift
    → RamadanTold c (ramadan_again (unsaid c) c)
unfolding ramadan_given ramadan_bytes set_number_of
ramadan_held c few near =
    cases (unsaid c) (λ t. simp t (unsaid_told c t))
    (λ t. cases (eqb c.ramadan 1)
    (λ u. simp (t, u) (record {
      ramadan = sym (eqb-true c.ramadan 1 u);
      imsak = (unsigned most_imsak 255 c.imsak (lit< tt)).held (simp (t, u) at few);
      shift = (shift c.shift).held (simp (t, u) at near);
    }))
    (λ u. let l : 255 ≤ most_imsak = simp (t, u) at few in absurd (omega arith)))
