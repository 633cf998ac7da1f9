-- A record that was read: its floats are f64 and none is -0.0, and imsak and shift are 0 if its sheet is not Ramadan's. Assumes nothing.
use Rattle.prelude.proofs.Logic.{◌≡◌, refl, sym, ap, subst, ◌∙◌, Bool, true, false, not, ◌||◌, List, ℕ, zero, suc, ◌≤◌, arith, T, eqb, lit≤}
use Rattle.prelude.proofs.Logic.{pos, eqb-false, eq-eqb, and_l, and_r, ◌&&◌, cases, arms}
use Rattle.prelude.proofs.Computed.{below, at, when}
use Rattle.prelude.proofs.Ieee.{Float, fin, binary64, fits, to_bits, of_bits, of_fields, odd, eq, round, size, round-fits, of_bits-to_bits}
use lib.Ieee.Bits.{of_bits-fits}
use Rattle.order_numbers.proofs.Reader.{dec, bits_of, float_of, byte_of, Values, last_tag, choice_fits, method_of, method_number_of}
use Rattle.order_numbers.proofs.Reader.{madhab_of, madhab_number_of, rule_of, rule_number_of, rounding_of, rounding_number_of, shafaq_of}
use Rattle.order_numbers.proofs.Reader.{shafaq_number_of, midnight_of, midnight_number_of, southern_of, southern_number_of, preset, preset_of}
use Rattle.order_numbers.proofs.Reader.{Order, degrees_in, form_in, coordinate_in, byte_or, degrees_or, rounding_or, parameters_in, rules_in}
use Rattle.order_numbers.proofs.Reader.{ramadan_given, ramadan_in, look_up, fits_of, out_of_range_of, order_of, brought, fits_given}
use Rattle.float64.proofs.Floats.{Signed, round-signed}
use Rattle.map_form.specs.declared.MapForm.{MapForm}
use Rattle.map_form.specs.Hundredths.{in_degree, signed, size_of, signed_hundredths_of, degrees_of, form_fits}
use Rattle.map_form.specs.Written.{hundredths_of}
use Rattle.map_form.proofs.Rounding.{round_back}
use Rattle.map_form.proofs.RoundTrip as map
use Rattle.models.specs.declared.method.Method.{Method}
use Rattle.models.specs.declared.rounding.Rounding.{Rounding}
use Rattle.models.specs.declared.rounding.Rounding.TheVariants.{Nearest, Up, None}
use Rattle.order_numbers.specs.Bytes.{minus_zero}
use Rattle.order_numbers.proofs.KindLaws.{no}
use Rattle.order_numbers.proofs.ValueLaws.{choice_small}

pub record Plain (x : Float) : Type 0 where
  pub f64 : T (fits binary64 x)
  pub other : to_bits binary64 x ≡ minus_zero → ⊥

minus_zero_lem : (x : Float) → T (fits binary64 x) → to_bits binary64 x ≡ minus_zero → x ≡ fin true 0 (pos 0)
unfolding of_bits of_fields odd
minus_zero_lem x f q = sym (of_bits-to_bits binary64 x f) ∙ ap (of_bits binary64) q

zero_plain : Plain (dec 0 0)
unfolding dec round to_bits size
zero_plain = record { f64 = round-fits binary64 false 0 1; other = λ q. eqb-false 0 minus_zero refl q }

-- ---- what a tag gives
degrees_plain : (v : List ℕ) → Plain (degrees_in v)
unfolding degrees_in float_of eq dec round
degrees_plain v =
    let x = of_bits binary64 (bits_of v) in
    let f = of_bits-fits binary64 (bits_of v) in
    arms Plain (eq x (dec 0 0)) (λ t. zero_plain)
    (λ t. record { f64 = f; other = λ q. no (sym (ap (λ (y : Float). eq y (dec 0 0)) (minus_zero_lem x f q)) ∙ t) })

-- the sign of a count is that of its float, and only a count of 0 is read as a zero
count_plain : (s : Bool) (n : ℕ) → n ≤ 64800000 → (s ≡ true → 1 ≤ n) → Plain (round binary64 s n in_degree)
unfolding hundredths_of
count_plain false n h some =
    let x = round binary64 false n in_degree in
    let f = round-fits binary64 false n in_degree in
    record { f64 = f; other = λ q. no (subst (Signed false) (minus_zero_lem x f q) (round-signed n in_degree false)) }
count_plain true n h some =
    let x = round binary64 true n in_degree in
    let f = round-fits binary64 true n in_degree in
    let l = some refl in
    record {
      f64 = f;
      other = λ q. let z : 0 ≡ n = sym (ap hundredths_of (minus_zero_lem x f q)) ∙ round_back true n (omega arith) in omega arith;
    }

map_plain : (most : ℕ) → most ≤ 180 → (f : MapForm) → form_fits most f ≡ true → Plain (degrees_of (signed_hundredths_of f))
unfolding degrees_of
map_plain most small f t =
    let w = (map.fits most f t).whole_in in
    by_sign (eqb f.sign 1) (size_of f) (omega arith)
  where
    by_sign : (s : Bool) (n : ℕ) → n ≤ 64800000 → Plain (degrees_of (signed s n))
    by_sign false n h = count_plain false n h (λ e. no (sym e))
    by_sign true zero h = count_plain false 0 h (λ e. no (sym e))
    by_sign true (suc n) h = count_plain true (suc n) h (λ e. omega arith)

-- ---- what a method brings, tested for every byte that is a method's number
abbrev is_plain : Float → Bool
is_plain x = fits binary64 x && not (eqb (to_bits binary64 x) minus_zero)

pub plain : (x : Float) → T (is_plain x) → Plain x
plain x t =
    let other = and_r (fits binary64 x) (not (eqb (to_bits binary64 x) minus_zero)) t in
    record {
      f64 = and_l (fits binary64 x) _ t;
      other = λ q. subst (λ (b : Bool). T (not b)) (eq-eqb (to_bits binary64 x) minus_zero q) other;
    }

abbrev brings_plain : ℕ → Bool
brings_plain b = not (choice_fits 6 b) || (is_plain (preset_of (method_of b)).fajr_angle && is_plain (preset_of (method_of b)).isha_angle)

brings : (b : ℕ) → choice_fits 6 b ≡ true → Plain (preset_of (method_of b)).fajr_angle × Plain (preset_of (method_of b)).isha_angle
unfolding choice_fits method_of preset_of preset dec round to_bits fits size
brings b f =
    let small = choice_small 6 b f in
    let told = when (choice_fits 6 b) _ (at brings_plain 256 tt b (omega arith)) (subst T (sym f) tt) in
    let x = (preset_of (method_of b)).fajr_angle in
    let y = (preset_of (method_of b)).isha_angle in
    (plain x (and_l (is_plain x) (is_plain y) told), plain y (and_r (is_plain x) (is_plain y) told))

-- ---- the numbers of choices: f reads a number as a choice and gives the choice's number
abbrev fits_again : ℕ → (ℕ → ℕ) → ℕ → Bool
fits_again tag f b = not (choice_fits tag b) || choice_fits tag (f b)

again_fits : (tag : ℕ) (f : ℕ → ℕ) → T (below (fits_again tag f) 256) → (b : ℕ) → choice_fits tag b ≡ true → choice_fits tag (f b) ≡ true
again_fits tag f t b fits =
    let most = choice_small tag b fits in
    let told = when (choice_fits tag b) (choice_fits tag (f b)) (at (fits_again tag f) 256 t b (omega arith)) (subst T (sym fits) tt) in
    cases (choice_fits tag (f b)) (λ u. u) (λ u. absurd (subst T u told))

rounding_fits : (c : Rounding) → choice_fits 9 (rounding_number_of c) ≡ true
unfolding choice_fits
rounding_fits Nearest = refl
rounding_fits Up = refl
rounding_fits None = refl

-- ---- the record that is read
pub record Given (order : Order) : Type 0 where
  pub method : choice_fits 6 (method_number_of order.setting.parameters.method) ≡ true
  pub madhab : choice_fits 7 (madhab_number_of order.setting.parameters.madhab) ≡ true
  pub rule : choice_fits 8 (rule_number_of order.setting.parameters.high_latitude_rule) ≡ true
  pub rounding : choice_fits 9 (rounding_number_of order.setting.parameters.rounding) ≡ true
  pub shafaq : choice_fits 10 (shafaq_number_of order.setting.parameters.shafaq) ≡ true
  pub carry : choice_fits 15 (midnight_number_of order.setting.rules.midnight) ≡ true
  pub southern : choice_fits 17 (southern_number_of order.setting.rules.southern) ≡ true
  pub latitude : Plain order.setting.coordinates.latitude
  pub longitude : Plain order.setting.coordinates.longitude
  pub fajr : Plain order.setting.parameters.fajr_angle
  pub isha : Plain order.setting.parameters.isha_angle
  pub unset : order.ramadan.set ≡ false → (order.ramadan.imsak ≡ 0) × (order.ramadan.shift ≡ pos 0)

module _ (v : Values) (named : v.has 6 ≡ true) (ranges : (out_of_range_of v).number ≡ 0) where
  choice-fits : (tag missing : ℕ) (f : ℕ → ℕ) → T (below (fits_again tag f) 256)
      → (v.has tag ≡ true → choice_fits tag (byte_of (v.value tag) 0) ≡ true)
      → choice_fits tag missing ≡ true → choice_fits tag (f (byte_or v tag missing)) ≡ true
  unfolding byte_or
  choice-fits tag missing f t given else =
      again_fits tag f t (byte_or v tag missing) (arms (λ (b : ℕ). choice_fits tag b ≡ true) (v.has tag) given (λ u. else))

  coordinate : (float map most : ℕ) → most ≤ 180 → (v.has map ≡ true → form_fits most (form_in (v.value map)) ≡ true)
      → Plain (coordinate_in v float map)
  unfolding coordinate_in
  coordinate float map most small as-map =
      arms Plain (v.has map) (λ t. map_plain most small (form_in (v.value map)) (as-map t)) (λ t. degrees_plain (v.value float))

  angle : (tag : ℕ) (missing : Float) → Plain missing → Plain (degrees_or v tag missing)
  unfolding degrees_or
  angle tag missing p = arms Plain (v.has tag) (λ t. degrees_plain (v.value tag)) (λ t. p)

  none-set : (ramadan_in v).set ≡ false → ((ramadan_in v).imsak ≡ 0) × ((ramadan_in v).shift ≡ pos 0)
  unfolding ramadan_in ramadan_given
  none-set e = cases (v.has 20) (λ t. no (simp t at e)) (λ t. simp t (refl, refl))

  pub given : Given (order_of v)
  unfolding order_of parameters_in rules_in fits_of look_up choice_fits method_of madhab_of rule_of rounding_of shafaq_of midnight_of southern_of
  given =
      let method = method_of (byte_of (v.value 6) 0) in
      let fits : (tag : ℕ) → 1 ≤ tag → tag ≤ last_tag → v.has tag ≡ true → fits_of v tag ≡ true = fits_given v ranges in
      let first = fits 6 (lit≤ tt) (lit≤ tt) named in
      let b = brings (byte_of (v.value 6) 0) first in
      record {
        method = ap (λ (m : Method). choice_fits 6 (method_number_of m)) (brought method).named
            ∙ again_fits 6 (λ b. method_number_of (method_of b)) tt (byte_of (v.value 6) 0) first;
        madhab = choice-fits 7 1 (λ b. madhab_number_of (madhab_of b)) tt (fits 7 (lit≤ tt) (lit≤ tt)) refl;
        rule = choice-fits 8 0 (λ b. rule_number_of (rule_of b)) tt (fits 8 (lit≤ tt) (lit≤ tt)) refl;
        rounding = rounding_fits (rounding_or v (preset_of method).rounding);
        shafaq = choice-fits 10 0 (λ b. shafaq_number_of (shafaq_of b)) tt (fits 10 (lit≤ tt) (lit≤ tt)) refl;
        carry = choice-fits 15 0 (λ b. midnight_number_of (midnight_of b)) tt (fits 15 (lit≤ tt) (lit≤ tt)) refl;
        southern = choice-fits 17 0 (λ b. southern_number_of (southern_of b)) tt (fits 17 (lit≤ tt) (lit≤ tt)) refl;
        latitude = coordinate 4 18 90 (lit≤ tt) (fits_given v ranges 18 (lit≤ tt) (lit≤ tt));
        longitude = coordinate 5 19 180 (lit≤ tt) (fits_given v ranges 19 (lit≤ tt) (lit≤ tt));
        fajr = angle 12 (preset_of method).fajr_angle b.0;
        isha = angle 13 (preset_of method).isha_angle b.1;
        unset = none-set;
      }
