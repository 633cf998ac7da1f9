-- Two ends: 5 if the page lacks the row; else the rows that fit are written, from row `first` on.
use Rattle.prelude.proofs.Logic.{◌≡◌, sym, ap, ◌∙◌, ◌+◌, ◌-◌, ◌*◌, ◌/◌, arith, length}
use Rattle.pages.specs.Answers.{piece_in}
use Rattle.pages.proofs.AnswerLaws.{rows_refused, rows_answered}
use Rattle.pages.proofs.PageLaws.{piece-none, piece-written}
use Rattle.pages.proofs.RowsLaws.{rows-length}
use Rattle.pages.proofs.page.write_read.Goals as goal

pub returns-then-first-count : goal.returns-then-first-count
returns-then-first-count c =
    let a = c.args in
    let none = piece-none a.order a.page a.first (length a.scratch.now / 39)
    (omega (arith, c.rows_on-count.ensures, c.if-first-count.true)) in
    let both = rows_refused _ _ _ _ none c.lacks_row.ensures c.refused.ensures in record { value = both.0; scratch_after = both.1 }

pub overflow_sub-page : goal.overflow_sub-page
overflow_sub-page c =
    let w = piece-written _ _ _ _ _ _ c.rows_on-count.ensures c.if-first-count.false
    (omega (arith, c.requires.1)) c.rows_that_fit-taken.ensures in
    w.from

pub overflow_mul-page : goal.overflow_mul-page
overflow_mul-page c =
    let w = piece-written _ _ _ _ _ _ c.rows_on-count.ensures c.if-first-count.false
    (omega (arith, c.requires.1)) c.rows_that_fit-taken.ensures in
    omega (arith, w.within, c.requires.0.rows.1)

pub overflow_add-page : goal.overflow_add-page
overflow_add-page c =
    let w = piece-written _ _ _ _ _ _ c.rows_on-count.ensures c.if-first-count.false
    (omega (arith, c.requires.1)) c.rows_that_fit-taken.ensures in
    omega (arith, w.within, c.requires.0.rows.1)

pub write_rows-requires : goal.write_rows-requires
write_rows-requires c =
    let p = c.requires in
    let w = piece-written _ _ _ _ _ _ c.rows_on-count.ensures c.if-first-count.false
    (omega (arith, c.requires.1)) c.rows_that_fit-taken.ensures in
    (p.0, w.some, w.within, omega (arith, w.fit, p.1))

pub returns : goal.returns
returns c =
    let a = c.args in
    let w = piece-written _ _ _ _ _ _ c.rows_on-count.ensures c.if-first-count.false
    (omega (arith, c.requires.1)) c.rows_that_fit-taken.ensures in
    let taken = c.rows_that_fit-taken.result in
    let asked = piece_in a.page a.first a.scratch.now a.order in
    let l : taken ≡ length asked = sym (rows-length a.order (25 * (a.page - 1) + a.first) taken) ∙ ap length w.rows in
    let put = c.write_rows.ensures in
    let both = rows_answered _ asked _ _ _ (omega (arith, w.some)) w.rows put.value put.buffer_after in record { value = both.0; scratch_after = both.1 }
