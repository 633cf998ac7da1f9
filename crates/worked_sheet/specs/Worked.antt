-- An example, which need not be believed: one order from its bytes to its sheet, worked by the definitions alone. Kiruna has two rows, from
-- 25 May 2026 on, the last days before the sun stays up. The first row has its nine times, two of them on the day before. The second is
-- refused, since the sun does not rise on its third day. tests/worked_sheet holds it to examples/kiruna. Proved in proofs/WorkedLaws.
use Rattle.std.specs.Prelude.{ℕ, ◌≡◌, List, [], ◌∷◌, ◌++◌}
use Rattle.text.specs.Text.{ascii}
use Rattle.sheets.specs.Rows.{sheet_text}

-- the town, the first day, two rows, 67.8558 north, 20.2253 east, the method of the Muslim World League
abbrev pub kiruna : List ℕ
kiruna =
    (1 ∷ 0 ∷ 6 ∷ ascii "Kiruna") ++ (2 ∷ 0 ∷ 4 ∷ 7 ∷ 234 ∷ 5 ∷ 25 ∷ []) ++ (3 ∷ 0 ∷ 1 ∷ 2 ∷ [])
    ++ (4 ∷ 0 ∷ 8 ∷ 0x40 ∷ 0x50 ∷ 0xf6 ∷ 0xc5 ∷ 0x6d ∷ 0x5c ∷ 0xfa ∷ 0xad ∷ [])
    ++ (5 ∷ 0 ∷ 8 ∷ 0x40 ∷ 0x34 ∷ 0x39 ∷ 0xad ∷ 0x42 ∷ 0xc3 ∷ 0xc9 ∷ 0xef ∷ []) ++ (6 ∷ 0 ∷ 1 ∷ 0 ∷ [])

-- what the sheet program prints of it
abbrev pub printed : List ℕ
printed =
    ascii "Kiruna\ndate fajr sunrise dhuhr asr maghrib isha middle qiyam tomorrow\n"
    ++ ascii "2026-05-25 -1T22:47:00 -1T23:22:00 +0T10:37:00 +0T15:28:00 +0T22:00:00 +0T22:35:00 +0T22:26:00 +0T22:34:00 +0T22:51:00\n"
    ++ ascii "2026-05-26 refused 7 day 2\n"

abbrev pub SheetIsAsPrinted : Type 0
SheetIsAsPrinted = sheet_text kiruna ≡ printed
