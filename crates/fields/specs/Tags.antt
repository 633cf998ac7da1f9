-- Document 01's table of tags: the length of each value, and its range if it is a choice. The names of tags 18 and 19 are in map_form's
-- specs/.
use Rattle.std.specs.Prelude.{ℕ, ◌-◌, Bool, ◌&&◌, List, [], ◌∷◌, leb, length, get_or}

abbrev pub town_tag : ℕ
town_tag = 1

abbrev pub date_tag : ℕ
date_tag = 2

abbrev pub rows_tag : ℕ
rows_tag = 3

abbrev pub latitude_tag : ℕ
latitude_tag = 4

abbrev pub longitude_tag : ℕ
longitude_tag = 5

abbrev pub method_tag : ℕ
method_tag = 6

abbrev pub madhab_tag : ℕ
madhab_tag = 7

abbrev pub high_latitude_tag : ℕ
high_latitude_tag = 8

abbrev pub rounding_tag : ℕ
rounding_tag = 9

abbrev pub shafaq_tag : ℕ
shafaq_tag = 10

abbrev pub minutes_tag : ℕ
minutes_tag = 11

abbrev pub fajr_angle_tag : ℕ
fajr_angle_tag = 12

abbrev pub isha_angle_tag : ℕ
isha_angle_tag = 13

abbrev pub isha_interval_tag : ℕ
isha_interval_tag = 14

abbrev pub midnight_tag : ℕ
midnight_tag = 15

abbrev pub clock_tag : ℕ
clock_tag = 16

abbrev pub southern_tag : ℕ
southern_tag = 17

abbrev pub ramadan_tag : ℕ
ramadan_tag = 20

-- "town, 1 to 40 bytes"
abbrev pub longest_town : ℕ
longest_town = 40

abbrev pub row : (shortest longest lowest highest : ℕ) → List ℕ
row shortest longest lowest highest = shortest ∷ longest ∷ lowest ∷ highest ∷ []

-- a row for each tag from 0 on: the shortest and the longest value; and the lowest and the highest number if the value is one byte for a
-- choice. There is no tag 0, and nothing fits it. "Month and day are one byte each, tags 6 to 10 one byte, tags 4, 5, 12 and 13 a float."
-- On rows: "its value may now also have two bytes".
abbrev pub tags : List (List ℕ)
tags =
    row 1 0 1 0
    ∷ row 1 longest_town 0 0  -- 1 town
    ∷ row 4 4 0 0  -- 2 date
    ∷ row 1 2 0 0  -- 3 rows
    ∷ row 8 8 0 0  -- 4 latitude
    ∷ row 8 8 0 0  -- 5 longitude
    ∷ row 1 1 0 12  -- 6 method
    ∷ row 1 1 1 2  -- 7 madhab
    ∷ row 1 1 0 2  -- 8 high latitude rule
    ∷ row 1 1 0 2  -- 9 rounding
    ∷ row 1 1 0 2  -- 10 shafaq
    ∷ row 12 12 0 0  -- 11 six minutes
    ∷ row 8 8 0 0  -- 12 Fajr angle
    ∷ row 8 8 0 0  -- 13 Isha angle
    ∷ row 2 2 0 0  -- 14 Isha interval
    ∷ row 1 1 0 1  -- 15 at midnight
    ∷ row 2 2 0 0  -- 16 clock
    ∷ row 1 1 0 1  -- 17 the southern season
    ∷ row 5 5 0 0  -- 18 latitude as on the map
    ∷ row 5 5 0 0  -- 19 longitude as on the map
    ∷ row 2 2 0 0  -- 20 Ramadan
    ∷ []

abbrev pub last_tag : ℕ
last_tag = length tags - 1

abbrev pub column : ℕ → ℕ → ℕ
column tag i = get_or (get_or tags tag []) i 0

abbrev pub known_tag : ℕ → Bool
known_tag tag = leb 1 tag && leb tag last_tag

-- "A length that the tag's value can't have is 2 (a town of 0 or 41 bytes too)"
unfoldable pub length_fits : ℕ → ℕ → Bool
length_fits tag n = leb tag last_tag && (leb (column tag 0) n && leb n (column tag 1))

-- "Range ends are allowed"
unfoldable pub choice_fits : ℕ → ℕ → Bool
choice_fits tag number = leb tag last_tag && (leb (column tag 2) number && leb number (column tag 3))
