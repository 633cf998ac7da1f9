-- Request 7: "a place sent either way with the same f64 gets the same sheet, shifts by minutes included." Stated for the bytes of any two
-- orders: the record, the sheet and what the calls return are the same. Demand 3's two orders may differ in the form too. Proved in
-- proofs/EitherFormLaws.
use Rattle.std.specs.Prelude.{ℕ, ◌≤◌, ◌≡◌, Bool, false, ◌||◌, List, eqb, Ok}
use Rattle.days.specs.Calls.{work_day_of, prayer_at_of, next_at_of, remaining_at_of}
use Rattle.fields.specs.Tags.{latitude_tag, longitude_tag, last_tag}
use Rattle.fields.specs.Values.{has_of, value_of}
use Rattle.fields.specs.declared.values.Part.{Part}
use Rattle.map_form.specs.Written.{map_latitude_tag, map_longitude_tag}
use Rattle.order.specs.declared.reading.Order.{Order}
use Rattle.order.specs.Reading.{reading_of, town_of}
use Rattle.pages.specs.Answers.{cells_call_of, page_call_of}
use Rattle.pages.specs.Reports.{wear_text, cells_text}
use Rattle.sheets.specs.Rows.{row_call_of, sheet_text}
use Rattle.schedule.specs.declared.in_force.Instant.{Instant}
use Rattle.weeks.specs.Report.{week_text}
use Rattle.order_laws.specs.Minutes.{LaterOrder}

-- the tags that say the place, in either form
abbrev pub says_place : ℕ → Bool
says_place tag = eqb tag latitude_tag || eqb tag longitude_tag || eqb tag map_latitude_tag || eqb tag map_longitude_tag

-- the two orders are read. Each coordinate is the same f64, in either form, and every other tag gives the same
pub record SamePlace (a b : List ℕ) : Type 0 where
  pub first : Order
  pub second : Order
  pub first_read : reading_of a ≡ Ok first
  pub second_read : reading_of b ≡ Ok second
  pub latitude : first.setting.coordinates.latitude ≡ second.setting.coordinates.latitude
  pub longitude : first.setting.coordinates.longitude ≡ second.setting.coordinates.longitude
  pub others : (tag : ℕ) → tag ≤ last_tag → says_place tag ≡ false → (has_of a tag ≡ has_of b tag) × (value_of a tag ≡ value_of b tag)

-- an order whose town is elsewhere in its bytes
abbrev pub with_town : Order → Part → Order
with_town order town =
    record {
      town = town;
      date = order.date;
      rows = order.rows;
      setting = order.setting;
      clock = order.clock;
      ramadan = order.ramadan;
    }

pub record SameAnswers (a b : List ℕ) : Type 0 where
  pub town : town_of a ≡ town_of b
  pub sheet : sheet_text a ≡ sheet_text b
  -- the calls on a row, on an instant, and on a row buffer: what they return, and the buffer
  pub day : (row : ℕ) → work_day_of a row ≡ work_day_of b row
  pub prayer : (row : ℕ) (i : Instant) → prayer_at_of a row i ≡ prayer_at_of b row i
  pub next : (row : ℕ) (i : Instant) → next_at_of a row i ≡ next_at_of b row i
  pub remaining : (row : ℕ) (i : Instant) → remaining_at_of a row i ≡ remaining_at_of b row i
  pub row_call : (row : ℕ) (buffer : List ℕ) → row_call_of a row buffer ≡ row_call_of b row buffer
  -- cells: of a row, of a page or a piece of it, of all pages, and their dots
  pub cells_call : (row : ℕ) (buffer : List ℕ) → cells_call_of a row buffer ≡ cells_call_of b row buffer
  pub page_call : (page first : ℕ) (scratch : List ℕ) → page_call_of a page first scratch ≡ page_call_of b page first scratch
  pub wear : wear_text a ≡ wear_text b
  pub cells : cells_text a ≡ cells_text b
  -- the week's report
  pub week : week_text a ≡ week_text b

abbrev pub EitherFormAnswersAlike : Type 0
EitherFormAnswersAlike = (a b : List ℕ) (orders : SamePlace a b)
    → (with_town orders.first orders.second.town ≡ orders.second) × SameAnswers a b

-- "shifts by minutes included": if demand 3 applies to two orders, it applies to them with the place sent the other way too
abbrev pub EitherFormMovesAlike : Type 0
EitherFormMovesAlike = (a b c d : List ℕ) → SamePlace a c → SamePlace b d → LaterOrder a b → LaterOrder c d
