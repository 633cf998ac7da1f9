-- A proof for each row of the table.
use Rattle.prelude.proofs.Logic.{ne_eqb, arith}
use Rattle.float64.proofs.Floats.{neg, of_bits, round, dec}
use Rattle.order.specs.Ranges.{look_up}
use Rattle.order.proofs.ranges.fits.Goals as goal

pub returns-in-1 : goal.returns-in-1
unfolding look_up dec round of_bits neg
returns-in-1 c = simp (c.text_fits.ensures, c.in-1.is)

pub returns-in-2 : goal.returns-in-2
unfolding look_up dec round of_bits neg
returns-in-2 c = simp (c.date_fits.ensures, c.date_in.ensures, c.in-2.is)

pub returns-in-3 : goal.returns-in-3
unfolding look_up dec round of_bits neg
returns-in-3 c = simp (c.ramadan_rows.ensures, c.rows_fit.ensures, c.in-3.is)

pub returns-in-4 : goal.returns-in-4
unfolding look_up dec round of_bits neg
returns-in-4 c = simp (c.degrees_fit.ensures, c.in-4.is)

pub returns-in-5 : goal.returns-in-5
unfolding look_up dec round of_bits neg
returns-in-5 c = simp (c.degrees_fit-in-5.ensures, c.in-5.is)

pub returns-in-11 : goal.returns-in-11
unfolding look_up dec round of_bits neg
returns-in-11 c = simp (c.minutes_fit.ensures, c.minutes_in.ensures, c.in-11.is)

pub returns-in-12 : goal.returns-in-12
unfolding look_up dec round of_bits neg
returns-in-12 c = simp (c.degrees_fit-in-12.ensures, c.in-12.is)

pub returns-in-13 : goal.returns-in-13
unfolding look_up dec round of_bits neg
returns-in-13 c = simp (c.degrees_fit-in-13.ensures, c.in-13.is)

pub returns-in-14 : goal.returns-in-14
unfolding look_up dec round of_bits neg
returns-in-14 c = simp (c.interval_fits.ensures, c.in-14.is)

pub returns-in-16 : goal.returns-in-16
unfolding look_up dec round of_bits neg
returns-in-16 c = simp (c.clock_fits.ensures, c.in-16.is)

pub returns-in-18 : goal.returns-in-18
unfolding look_up dec round of_bits neg
returns-in-18 c = simp (c.latitude_fits.ensures, c.form_in.ensures, c.in-18.is)

pub returns-in-19 : goal.returns-in-19
unfolding look_up dec round of_bits neg
returns-in-19 c = simp (c.longitude_fits.ensures, c.form_in-in-19.ensures, c.in-19.is)

pub returns-in-20 : goal.returns-in-20
unfolding look_up dec round of_bits neg
returns-in-20 c = simp (c.ramadan_fits.ensures, c.in-20.is)

pub returns-in_default : goal.returns-in_default
unfolding look_up
returns-in_default c =
    simp (
      c.choice_fits.ensures,
      c.byte.ensures.value,
      ne_eqb c.args.tag 1 (λ e. omega arith),
      ne_eqb c.args.tag 2 (λ e. omega arith),
      ne_eqb c.args.tag 3 (λ e. omega arith),
      ne_eqb c.args.tag 4 (λ e. omega arith),
      ne_eqb c.args.tag 5 (λ e. omega arith),
      ne_eqb c.args.tag 11 (λ e. omega arith),
      ne_eqb c.args.tag 12 (λ e. omega arith),
      ne_eqb c.args.tag 13 (λ e. omega arith),
      ne_eqb c.args.tag 14 (λ e. omega arith),
      ne_eqb c.args.tag 16 (λ e. omega arith),
      ne_eqb c.args.tag 18 (λ e. omega arith),
      ne_eqb c.args.tag 19 (λ e. omega arith),
      ne_eqb c.args.tag 20 (λ e. omega arith),
    )
