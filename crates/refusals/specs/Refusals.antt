-- Document 01's table of refusals, and the numbers that document 02 adds. A refusal is a number and a place. The numbers have the code's
-- names; each has the paper's words for its condition, and after the semicolon its place.
use Rattle.std.specs.Prelude.{ℕ, cond, List, [], ◌∷◌, eqb, Err, Ok, Result}
use Rattle.refusals.specs.declared.Refusal.{Refusal}

abbrev pub refusal : ℕ → ℕ → Refusal
refusal number place = record { number = number; place = place }

-- nothing is refused
abbrev pub no_refusal : Refusal
no_refusal = refusal 0 0

-- the first if it refuses something, else the second
unfoldable pub or_of : Refusal → Refusal → Refusal
or_of first second = cond (eqb first.number 0) second first

-- the value if nothing is refused, else the refusal
unfoldable pub unless_refused : {A : Type 0} → Refusal → A → Result A Refusal
unless_refused r value = cond (eqb r.number 0) (Ok value) (Err r)

-- "over 1,024 bytes, or a field cut"; "its offset, or 0"
abbrev pub field_cut : ℕ
field_cut = 1

-- "unknown tag, wrong length"; "its offset"
abbrev pub field_unknown : ℕ
field_unknown = 2

-- "tag a second time"; "its offset"
abbrev pub field_again : ℕ
field_again = 3

-- "tag missing"; the tag
abbrev pub tag_missing : ℕ
tag_missing = 4

-- "value out of range, or a day the month lacks"; the tag. "A row that the order lacks is 5, place 3"
abbrev pub out_of_range : ℕ
out_of_range = 5

-- "no transit", "no sunrise", "no sunset"; the day, 0, 1 or 2
abbrev pub no_transit : ℕ
no_transit = 6

abbrev pub no_sunrise : ℕ
no_sunrise = 7

abbrev pub no_sunset : ℕ
no_sunset = 8

-- "row buffer under 119 bytes"; 0
abbrev pub buffer_short : ℕ
buffer_short = 9

-- "an instant's whole seconds beyond ±10^12, or its nanoseconds over 999,999,999"; 0
abbrev pub instant_beyond : ℕ
instant_beyond = 10

-- "next or remaining asked while no prayer is in force"; 0
abbrev pub none_in_force : ℕ
none_in_force = 11

-- request 6: "with 12 if the second buffer is too short for what compaction writes"; "the record's page", "at restart, the count"
abbrev pub log_second_short : ℕ
log_second_short = 12

-- request 6: "with 13 for a record out of turn"; "the record's page"
abbrev pub log_out_of_turn : ℕ
log_out_of_turn = 13

-- request 6: "with 14 for a count outside those bounds"; "the count"
abbrev pub log_count_outside : ℕ
log_count_outside = 14

-- request 7: "Both forms for one coordinate"; "18 or 19"
abbrev pub both_forms : ℕ
both_forms = 15

-- request 10: "by 16 when 16 jobs wait"; the id
abbrev pub queue_full : ℕ
queue_full = 16

-- request 10: "by 17 for id 0, an id still waiting or pages outside 1 to 16"; the id
abbrev pub job_unfit : ℕ
job_unfit = 17

-- request 12: "A start other than the shifted 1 Ramadan (month 9)"; 2
abbrev pub not_first_of_ramadan : ℕ
not_first_of_ramadan = 18

-- every number of the table
abbrev pub numbers : List ℕ
numbers =
    field_cut ∷ field_unknown ∷ field_again ∷ tag_missing ∷ out_of_range ∷ no_transit ∷ no_sunrise
    ∷ no_sunset ∷ buffer_short ∷ instant_beyond ∷ none_in_force ∷ log_second_short
    ∷ log_out_of_turn ∷ log_count_outside ∷ both_forms ∷ queue_full ∷ job_unfit ∷ not_first_of_ramadan ∷ []
