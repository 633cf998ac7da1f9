-- An order that is read is still read if a coordinate is sent in the other form, and its coordinates are written back. Assumes nothing.
use Rattle.std.specs.Prelude.{Ok}
use Rattle.prelude.proofs.Logic.{◌≡◌, refl, sym, ap, ◌∙◌, true, false, ◌&&◌, ◌||◌, List, ℕ, ◌≤◌, ◌<◌, arith, leb, leb-true, lit≤}
use Rattle.prelude.proofs.Logic.{get_or, eq-eqb, cases}
use Rattle.float64.proofs.Floats.{Float, neg, dec, Inside}
use Rattle.fields.specs.Fields.{check_of}
use Rattle.fields.specs.Tags.{last_tag}
use Rattle.fields.specs.Values.{has_of, value_of, values_of}
use Rattle.map_form.specs.Hundredths.{signed_hundredths_of, degrees_of, form_fits}
use Rattle.map_form.specs.Promises.{as_written}
use Rattle.map_form.specs.Written.{written_of}
use Rattle.map_form.proofs.RoundTrip.{writing_gives_back}
use Rattle.order.specs.Given.{form_in, coordinate_in, ramadan_in}
use Rattle.order.specs.Ranges.{degrees_fit, look_up, fits_of, in_range_of}
use Rattle.order.specs.Reading.{first_failing, required, is_given_of, missing_of, both_forms_of, tags_from, out_of_range_of, order_of, wrong_start_of}
use Rattle.order.specs.{Reading.first_of, Reading.reading_of, Accepted.Accepted, declared.reading.Order.Order}
use Rattle.order.proofs.AcceptedLaws.{read_accepted}
use Rattle.order.proofs.ReadingLaws.{Passed, read_passed, has_required, fits_given}
use Rattle.refusals.specs.Refusals.{no_refusal}
use Rattle.order_laws.specs.EitherForm.{says_place}
use Rattle.order_laws.proofs.EitherFormLaws.{has, value}
use Rattle.order_laws.specs.Swapped.{Sent, Swapped, OtherFormIsRead, ReadIsWrittenBack}

module _ (a b : List ℕ) (w : Swapped a b) where
  passed : Passed a w.order
  passed = read_passed a w.order w.first_read

  -- ---- ranges
  in-a : (tag : ℕ) → 1 ≤ tag → tag ≤ last_tag → in_range_of (values_of a) tag ≡ true
  unfolding in_range_of
  in-a tag l h = cases (has_of a tag) (λ t. simp t (fits_given (values_of a) passed.ranges tag l h t)) (λ t. simp t)

  same-range : (tag : ℕ) → has_of a tag ≡ has_of b tag → value_of a tag ≡ value_of b tag
      → in_range_of (values_of a) tag ≡ in_range_of (values_of b) tag
  unfolding in_range_of fits_of
  same-range tag h v = simp (h, v, has a b w.others, value a b w.others)

  other-range : (tag : ℕ) → leb 1 tag ≡ true → leb tag last_tag ≡ true → says_place tag ≡ false → in_range_of (values_of b) tag ≡ true
  other-range tag l h e =
      sym (same-range tag (has a b w.others tag h e) (value a b w.others tag h e))
      ∙ in-a tag (leb-true 1 tag l) (leb-true tag last_tag h)

  -- ---- a coordinate
  record Fine (float map : ℕ) : Type 0 where
    given : (has_of b float || has_of b map) ≡ true
    single : (has_of b float && has_of b map) ≡ false
    in_float : in_range_of (values_of b) float ≡ true
    in_map : in_range_of (values_of b) map ≡ true

  -- the checks that the first order passed
  either-given : (i : ℕ) → i < 6 → is_given_of (has_of a) (get_or required i 0) ≡ true
  either-given i l = has_required (has_of a) passed.given i l

  one_each : ((has_of a 4 && has_of a 18) ≡ false) × ((has_of a 5 && has_of a 19) ≡ false)
  unfolding both_forms_of
  one_each =
      let e = passed.single in
      cases (has_of a 4 && has_of a 18) (λ t. let z = simp t at e in absurd (omega arith))
      (λ t. cases (has_of a 5 && has_of a 19) (λ u. let z = simp (t, u) at e in absurd (omega arith)) (λ u. (t, u)))

  -- a float that is the coordinate of an order that is read is in its range
  float_fits : (most float map : ℕ) (x : Float) → Inside (neg (dec most 0)) (dec most 0) x → x ≡ coordinate_in (values_of b) float map
      → has_of b map ≡ false → degrees_fit (neg (dec most 0)) (dec most 0) (value_of b float) ≡ true
  unfolding coordinate_in
  float_fits most float map x inside same lacks = let e = simp lacks at same in rw (← e, inside.0, inside.1)

  fine : (float map most : ℕ) (x : Float) → (1 ≤ float) × (float ≤ last_tag) → (1 ≤ map) × (map ≤ last_tag)
      → (has_of a float || has_of a map) ≡ true → (has_of a float && has_of a map) ≡ false
      → fits_of (values_of b) float ≡ degrees_fit (neg (dec most 0)) (dec most 0) (value_of b float)
      → fits_of (values_of b) map ≡ form_fits most (form_in (value_of b map))
      → Inside (neg (dec most 0)) (dec most 0) x → x ≡ coordinate_in (values_of b) float map → Sent a b float map most → Fine float map
  unfolding in_range_of
  fine float map most x l k given single as-float as-map inside same (Sent.alike f v m u) =
      record {
        given = rw (f, m) at given;
        single = rw (f, m) at single;
        in_float = sym (same-range float f v) ∙ in-a float l.0 l.1;
        in_map = sym (same-range map m u) ∙ in-a map k.0 k.1;
      }
  fine float map most x l k given single as-float as-map inside same (Sent.mapped lacks there fits) =
      record { given = simp (lacks, there); single = simp lacks; in_float = simp lacks; in_map = rw (there, as-map) fits }
  fine float map most x l k given single as-float as-map inside same (Sent.floated there lacks) =
      record {
        given = simp there;
        single = simp (there, lacks);
        in_float = rw (there, as-float) (float_fits most float map x inside same lacks);
        in_map = simp lacks;
      }

  accepted : Accepted w.order
  accepted = read_accepted a w.order w.first_read

  latitude-fine : Fine 4 18
  unfolding is_given_of look_up fits_of
  latitude-fine =
      fine 4 18 90 w.order.setting.coordinates.latitude (lit≤ tt, lit≤ tt) (lit≤ tt, lit≤ tt) (either-given 3 (lit≤ tt))
      one_each.0 refl refl accepted.latitude w.same_latitude w.latitude

  longitude-fine : Fine 5 19
  unfolding is_given_of look_up fits_of
  longitude-fine =
      fine 5 19 180 w.order.setting.coordinates.longitude (lit≤ tt, lit≤ tt) (lit≤ tt, lit≤ tt) (either-given 4 (lit≤ tt))
      one_each.1 refl refl accepted.longitude w.same_longitude w.longitude

  -- ---- the checks
  given-b : missing_of (has_of b) ≡ no_refusal
  unfolding missing_of first_failing is_given_of look_up
  given-b =
      simp (
        latitude-fine.given,
        longitude-fine.given,
        sym (has a b w.others 1 refl refl) ∙ either-given 0 (lit≤ tt),
        sym (has a b w.others 2 refl refl) ∙ either-given 1 (lit≤ tt),
        sym (has a b w.others 3 refl refl) ∙ either-given 2 (lit≤ tt),
        sym (has a b w.others 6 refl refl) ∙ either-given 5 (lit≤ tt),
      )

  single-b : both_forms_of (has_of b) ≡ no_refusal
  unfolding both_forms_of
  single-b = simp (latitude-fine.single, longitude-fine.single)

  ranges-b : out_of_range_of (values_of b) ≡ no_refusal
  unfolding out_of_range_of first_failing tags_from
  ranges-b =
      simp (other-range, latitude-fine.in_float, longitude-fine.in_float, latitude-fine.in_map, longitude-fine.in_map)

  start-b : (wrong_start_of (order_of (values_of b)).ramadan (order_of (values_of b)).date).number ≡ 0
  unfolding order_of ramadan_in
  start-b =
      simp (← (value a b w.others 2 refl refl), ← (has a b w.others 20 refl refl), ← (value a b w.others 20 refl refl))
      passed.start

  second-read : reading_of b ≡ Ok (order_of (values_of b))
  unfolding reading_of first_of
  second-read = simp (eq-eqb (check_of b).number 0 w.fields, given-b, single-b, ranges-b, eq-eqb _ _ start-b)

pub other_form_is_read : OtherFormIsRead
unfolding order_of
other_form_is_read a b w =
    record {
      first = w.order;
      second = order_of (values_of b);
      first_read = w.first_read;
      second_read = second-read a b w;
      latitude = w.same_latitude;
      longitude = w.same_longitude;
      others = w.others;
    }

-- ---- a coordinate that was read as on the map is written back
module _ (s : List ℕ) (o : Order) (e : reading_of s ≡ Ok o) where
  back : (map most : ℕ) (of : Order → Float) → most ≤ 180 → form_fits most (form_in (value_of s map)) ≡ true
      → of (order_of (values_of s)) ≡ degrees_of (signed_hundredths_of (form_in (value_of s map)))
      → written_of map most (of o) ≡ record { refusal = no_refusal; form = as_written (form_in (value_of s map)) }
  back map most of small fits is =
      ap (λ (x : Order). written_of map most (of x)) (sym (read_passed s o e).same) ∙ ap (written_of map most) is
      ∙ writing_gives_back map most (form_in (value_of s map)) small fits

pub read_is_written_back : ReadIsWrittenBack
unfolding order_of coordinate_in fits_of look_up
read_is_written_back s o e =
    let fits = fits_given (values_of s) (read_passed s o e).ranges in
    record {
      latitude = λ h.
          back s o e 18 90 (λ (x : Order). x.setting.coordinates.latitude) (lit≤ tt) (fits 18 (lit≤ tt) (lit≤ tt) h) (simp h);
      longitude = λ h.
          back s o e 19 180 (λ (x : Order). x.setting.coordinates.longitude) (lit≤ tt) (fits 19 (lit≤ tt) (lit≤ tt) h) (simp h);
    }
