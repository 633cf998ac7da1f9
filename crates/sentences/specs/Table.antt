-- The words of the refusals: a line for each number and for each tag, from 0 on. A new one is a line here and one in src/table.rt.
use Rattle.std.specs.Prelude.{ℕ, Bool, List, [], ◌∷◌, ltb, length, get_or}
use Rattle.text.specs.Text.{ascii}

-- Each text begins with its number, and the place follows it. If it ends in a colon, its place is a tag, and the tag's name comes before
-- the place. An unknown number has an empty line.
unfoldable pub texts : List (List ℕ)
texts =
    []
    ∷ ascii "Refusal 1: over 1,024 bytes, or cut in the field at byte"
    ∷ ascii "Refusal 2: unknown tag or wrong length in the field at byte"
    ∷ ascii "Refusal 3: a tag stands a second time in the field at byte"
    ∷ ascii "Refusal 4: the order lacks a field:"
    ∷ ascii "Refusal 5: a value is out of range, or the month lacks the day:"
    ∷ ascii "Refusal 6: the sun has no transit (day 0 is the row's date), day"
    ∷ ascii "Refusal 7: the sun does not rise (day 0 is the row's date), day"
    ∷ ascii "Refusal 8: the sun does not set (day 0 is the row's date), day"
    ∷ ascii "Refusal 9: a lent buffer is too short, place"
    ∷ ascii "Refusal 10: an instant is out of range, place"
    ∷ ascii "Refusal 11: no prayer is in force, place"
    ∷ ascii "Refusal 12: the log's second buffer is too short, page or count"
    ∷ ascii "Refusal 13: a record of the log is out of turn, page"
    ∷ ascii "Refusal 14: the embosser's count does not fit the log, count"
    ∷ ascii "Refusal 15: a coordinate is given in both forms:"
    ∷ ascii "Refusal 16: the print queue is full, job id"
    ∷ ascii "Refusal 17: the job's id or its pages are not allowed, job id"
    ∷ ascii "Refusal 18: the sheet does not begin on the 1st of Ramadan:" ∷ []

-- the first line is for every tag that has no name; a tag number that is skipped has the same line
unfoldable pub names : List (List ℕ)
names =
    ascii " tag"
    ∷ ascii " town, tag"
    ∷ ascii " first day, tag"
    ∷ ascii " rows, tag"
    ∷ ascii " latitude, tag"
    ∷ ascii " longitude, tag"
    ∷ ascii " method, tag"
    ∷ ascii " madhab, tag"
    ∷ ascii " high latitude rule, tag"
    ∷ ascii " rounding, tag"
    ∷ ascii " shafaq, tag"
    ∷ ascii " minutes, tag"
    ∷ ascii " fajr angle, tag"
    ∷ ascii " isha angle, tag"
    ∷ ascii " isha interval, tag"
    ∷ ascii " carry, tag"
    ∷ ascii " clock, tag"
    ∷ ascii " southern, tag"
    ∷ ascii " map latitude, tag"
    ∷ ascii " map longitude, tag"
    ∷ ascii " ramadan, tag" ∷ []

unfoldable pub text_of : ℕ → List ℕ
text_of n = get_or texts n []

unfoldable pub name_of : ℕ → List ℕ
name_of tag = get_or names tag (ascii " tag")

abbrev pub known : ℕ → Bool
known n = ltb 0 (length (text_of n))
