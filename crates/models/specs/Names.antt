-- prayer.rs: the names of the prayers. Dhuhr is Jumua at an instant of a Friday: "`Utc::now`: an instant given" (document 01).
use Rattle.std.specs.Prelude.{ℕ, Bool, cond, List, [], ◌∷◌, eqb, ℤ}
use Rattle.integers.specs.Quotients.{floor_quot}
use Rattle.calendar.specs.Days.{weekday_of}
use Rattle.models.specs.declared.prayer.Prayer.{Prayer}
use Rattle.models.specs.declared.prayer.Prayer.TheVariants as prayer
use Rattle.models.specs.declared.prayer.Name.{Name}
use Rattle.models.specs.declared.prayer.Name.TheVariants as name

-- whether the day of an instant, in seconds from 1970-01-01 0h UTC, is a Friday: day 5, if Sunday is day 0
unfoldable pub is_friday_of : ℤ → Bool
is_friday_of seconds = eqb (weekday_of (floor_quot seconds 86400)) 5

unfoldable pub prayer_name_of : Prayer → ℤ → Name
prayer_name_of prayer.Fajr seconds = name.Fajr
prayer_name_of prayer.Sunrise seconds = name.Sunrise
prayer_name_of prayer.Dhuhr seconds = cond (is_friday_of seconds) name.Jumua name.Dhuhr
prayer_name_of prayer.Asr seconds = name.Asr
prayer_name_of prayer.Maghrib seconds = name.Maghrib
prayer_name_of prayer.Isha seconds = name.Isha
prayer_name_of prayer.Qiyam seconds = name.Qiyam
prayer_name_of prayer.FajrTomorrow seconds = name.Fajr

-- seven letters: a shorter name has blanks behind it
abbrev pub letters_of : Name → List ℕ
letters_of name.Fajr = 70 ∷ 97 ∷ 106 ∷ 114 ∷ 32 ∷ 32 ∷ 32 ∷ []
letters_of name.Sunrise = 83 ∷ 117 ∷ 110 ∷ 114 ∷ 105 ∷ 115 ∷ 101 ∷ []
letters_of name.Dhuhr = 68 ∷ 104 ∷ 117 ∷ 104 ∷ 114 ∷ 32 ∷ 32 ∷ []
letters_of name.Jumua = 74 ∷ 117 ∷ 109 ∷ 117 ∷ 97 ∷ 32 ∷ 32 ∷ []
letters_of name.Asr = 65 ∷ 115 ∷ 114 ∷ 32 ∷ 32 ∷ 32 ∷ 32 ∷ []
letters_of name.Maghrib = 77 ∷ 97 ∷ 103 ∷ 104 ∷ 114 ∷ 105 ∷ 98 ∷ []
letters_of name.Isha = 73 ∷ 115 ∷ 104 ∷ 97 ∷ 32 ∷ 32 ∷ 32 ∷ []
letters_of name.Qiyam = 81 ∷ 105 ∷ 121 ∷ 97 ∷ 109 ∷ 32 ∷ 32 ∷ []
