-- The cells of a row, one time after another. Assumes nothing.
use Rattle.std.specs.Prelude.{Err, Ok, Result}
use Rattle.refusals.specs.declared.Refusal.{Refusal}
use Rattle.prelude.proofs.Logic.{◌≡◌, refl, sym, ap, ◌∙◌, List, [], ◌∷◌, ◌++◌, append_assoc, append-nil, ℕ, ◌+◌, ◌*◌, ◌<◌, add-one, arith}
use Rattle.prelude.proofs.Logic.{ℤ, length, get_or, take, drop, replicate, length-append, take-suc, length-take-le}
use Rattle.calendar.specs.declared.dates.Date.{Date}
use Rattle.schedule.specs.declared.prayer_times.{PrayerTimes.PrayerTimes}
use Rattle.text.specs.Text.{put_of, front_of}
use Rattle.text.proofs.TextLaws.{put_front, put_next, put_behind, put_nothing}
use Rattle.braille.specs.Cells.{day_cells, time_cells, times_cells, six_of, refused_cells, row_cells}

day_length : (date : Date) → length (day_cells date) ≡ 3
unfolding day_cells
day_length date = refl

time_length : (clock time : ℤ) → length (time_cells clock time) ≡ 6
unfolding time_cells
time_length clock time = refl

times_length : (clock : ℤ) (times : List ℤ) → length (times_cells clock times) ≡ 6 * length times
unfolding times_cells
times_length clock [] = refl
times_length clock (time ∷ times) = simp (length-append, time_length clock time, times_length clock times) (omega arith)

pub row_length_lem : (date : Date) (worked : Result PrayerTimes Refusal) (clock : ℤ) → length (row_cells date worked clock) ≡ 39
unfolding row_cells refused_cells
row_length_lem date (Ok t) clock = simp (length-append, day_length date, times_length clock (six_of t)) (omega arith)
row_length_lem date (Err r) clock = simp (length-append, day_length date) (omega arith)

times_append : (clock : ℤ) (xs ys : List ℤ) → times_cells clock (xs ++ ys) ≡ times_cells clock xs ++ times_cells clock ys
unfolding times_cells
times_append clock [] ys = refl
times_append clock (x ∷ xs) ys =
    rw (times_append clock xs ys) (sym (append_assoc (time_cells clock x) (times_cells clock xs) (times_cells clock ys)))

times_next : (clock : ℤ) (times : List ℤ) (i : ℕ) (z : ℤ) → i < length times
    → times_cells clock (take i times) ++ time_cells clock (get_or times i z) ≡ times_cells clock (take (i + 1) times)
unfolding times_cells
times_next clock times i z h =
    let time = get_or times i z in
    let c : times_cells clock (time ∷ []) ≡ time_cells clock time = append-nil (time_cells clock time) in
    rw (add-one i, take-suc times i z h)
    (sym (times_append clock (take i times) (time ∷ []) ∙ ap (λ (l : List ℕ). times_cells clock (take i times) ++ l) c))

-- no time yet
pub times_none : (clock : ℤ) (times : List ℤ) (row : List ℕ) → length row ≡ 39 → row ≡ put_of row 3 (times_cells clock (take 0 times))
unfolding times_cells
times_none clock times row l = sym (put_nothing row 3 (omega arith))

-- the row of i times becomes that of i + 1
pub time_put : (clock : ℤ) (times : List ℤ) (i : ℕ) (z : ℤ) (row before after cells : List ℕ) → i < 6 → length times ≡ 6 → length row ≡ 39
    → before ≡ put_of row 3 (times_cells clock (take i times)) → cells ≡ time_cells clock (get_or times i z)
    → after ≡ put_of before (3 + 6 * i) cells
    → after ≡ put_of row 3 (times_cells clock (take (i + 1) times))
time_put clock times i z row before after cells h n l b e p =
    let done = times_cells clock (take i times) in
    let time = time_cells clock (get_or times i z) in
    let t = length-take-le i times (omega arith) in
    let d = times_length clock (take i times) in
    let c = time_length clock (get_or times i z) in
    let at : 3 + 6 * i ≡ 3 + length done = omega arith in
    p
    ∙ ap (put_of before (3 + 6 * i)) e
    ∙ ap (λ (x : List ℕ). put_of x (3 + 6 * i) time) b
    ∙ ap (λ (k : ℕ). put_of (put_of row 3 done) k time) at
    ∙ put_behind row done time 3 (omega arith)
    ∙ ap (put_of row 3) (times_next clock times i z (omega arith))

-- the day at the front
pub day_put : (date : Date) (row after cells : List ℕ) → length row ≡ 39 → cells ≡ day_cells date → after ≡ put_of row 0 cells
    → after ≡ front_of (day_cells date) row
day_put date row after cells l e p =
    let d = day_length date in
    put_next row [] (day_cells date) row after 0 refl refl (p ∙ ap (put_of row 0) e) (omega arith)

pub refused_done : (date : Date) (row : List ℕ) → row ≡ front_of (day_cells date) (replicate 39 0) → row ≡ refused_cells date
unfolding refused_cells day_cells
refused_done date row b = b

pub row_done : (date : Date) (t : PrayerTimes) (clock : ℤ) (six : List ℤ) (i : ℕ) (day row : List ℕ) → six ≡ six_of t → i ≡ 6
    → day ≡ front_of (day_cells date) (replicate 39 0) → row ≡ put_of day 3 (times_cells clock (take i six))
    → row ≡ row_cells date (Ok t) clock
unfolding row_cells
row_done date t clock six i day row e n f b =
    let text = times_cells clock (six_of t) in
    let d = day_length date in
    let m = times_length clock (six_of t) in
    let l : length (day_cells date ++ text) ≡ 39 = row_length_lem date (Ok t) clock in
    b
    ∙ ap (λ (k : ℕ). put_of day 3 (times_cells clock (take k six))) n
    ∙ ap (λ (ts : List ℤ). put_of day 3 (times_cells clock (take 6 ts))) e
    ∙ ap (λ (x : List ℕ). put_of x 3 text) f
    ∙ ap (λ (k : ℕ). put_of (front_of (day_cells date) (replicate 39 0)) k text) (sym d)
    ∙ put_front (day_cells date) text (replicate 39 0) (omega arith)
    ∙ ap (λ (k : ℕ). (day_cells date ++ text) ++ drop k (replicate 39 0)) l
    ∙ append-nil (day_cells date ++ text)
