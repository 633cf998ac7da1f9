-- Request 7: "Tags 18 and 19 stand for latitude and longitude". An order that is read is still read if a coordinate is sent in the other
-- form; EitherForm begins with two orders that are read. And the coordinates of an order that is read are written back. Proved in
-- proofs/SwappedLaws.
use Rattle.std.specs.Prelude.{ℕ, ◌≤◌, ◌≡◌, true, false, List, Ok}
use Rattle.fields.specs.Fields.{check_of}
use Rattle.fields.specs.Tags.{latitude_tag, longitude_tag, last_tag}
use Rattle.fields.specs.Values.{has_of, value_of, values_of}
use Rattle.map_form.specs.Hundredths.{most_latitude, most_longitude, form_fits}
use Rattle.map_form.specs.Promises.{as_written}
use Rattle.map_form.specs.Written.{map_latitude_tag, map_longitude_tag, written_of}
use Rattle.order.specs.Given.{coordinate_in, form_in}
use Rattle.order.specs.Reading.{reading_of}
use Rattle.order.specs.declared.reading.Order.{Order}
use Rattle.refusals.specs.Refusals.{no_refusal}
use Rattle.order_laws.specs.EitherForm.{SamePlace, says_place}

-- a coordinate, by its two tags: the second order gives it as the first does, or as on the map by a value that fits, or by a float
pub data Sent (a b : List ℕ) (float map most : ℕ) : Type 0 where
  alike : has_of a float ≡ has_of b float → value_of a float ≡ value_of b float → has_of a map ≡ has_of b map → value_of a map ≡ value_of b map
      → Sent a b float map most
  mapped : has_of b float ≡ false → has_of b map ≡ true → form_fits most (form_in (value_of b map)) ≡ true → Sent a b float map most
  floated : has_of b float ≡ true → has_of b map ≡ false → Sent a b float map most

-- the first order is read; the form of the second's fields is right, its coordinates are the same f64, and every other tag gives the same
pub record Swapped (a b : List ℕ) : Type 0 where
  pub order : Order
  pub first_read : reading_of a ≡ Ok order
  pub fields : (check_of b).number ≡ 0
  pub latitude : Sent a b latitude_tag map_latitude_tag most_latitude
  pub longitude : Sent a b longitude_tag map_longitude_tag most_longitude
  pub same_latitude : order.setting.coordinates.latitude ≡ coordinate_in (values_of b) latitude_tag map_latitude_tag
  pub same_longitude : order.setting.coordinates.longitude ≡ coordinate_in (values_of b) longitude_tag map_longitude_tag
  pub others : (tag : ℕ) → tag ≤ last_tag → says_place tag ≡ false → (has_of a tag ≡ has_of b tag) × (value_of a tag ≡ value_of b tag)

-- then the second is read too, and EitherForm applies to the two
abbrev pub OtherFormIsRead : Type 0
OtherFormIsRead = (a b : List ℕ) → Swapped a b → SamePlace a b

-- ---- "writing back a read coordinate gives its bytes, where zero is written with sign 0": the parts of `form_in` are the bytes
pub record BackOnTheMap (s : List ℕ) (o : Order) : Type 0 where
  pub latitude : has_of s map_latitude_tag ≡ true → written_of map_latitude_tag most_latitude o.setting.coordinates.latitude
      ≡ record { refusal = no_refusal; form = as_written (form_in (value_of s map_latitude_tag)) }
  pub longitude : has_of s map_longitude_tag ≡ true → written_of map_longitude_tag most_longitude o.setting.coordinates.longitude
      ≡ record { refusal = no_refusal; form = as_written (form_in (value_of s map_longitude_tag)) }

abbrev pub ReadIsWrittenBack : Type 0
ReadIsWrittenBack = (s : List ℕ) (o : Order) → reading_of s ≡ Ok o → BackOnTheMap s o
