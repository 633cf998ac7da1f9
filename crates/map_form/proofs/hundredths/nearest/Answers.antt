-- A law for a float so small that its count is 0, and one for the rest.
use Rattle.prelude.proofs.Logic.{◌-◌, ◌/◌, ◌%◌, ◌^◌, div-le_self, arith, lit≤}
use Rattle.float64.proofs.Floats.{binary64, to_bits}
use Rattle.map_form.proofs.Fields.{none, some, highest-field}
use Rattle.map_form.proofs.Range.{no_nan, count_le}
use Rattle.map_form.proofs.hundredths.nearest.Goals as goal

pub float_to_bits-b : goal.float_to_bits-b
float_to_bits-b c = no_nan c.args.x 180 c.requires

pub returns-then-e-lt1000 : goal.returns-then-e-lt1000
returns-then-e-lt1000 c =
    (none c.args.x c.well_formed.0.1 c.requires c.if-e-lt1000.true, lit≤ tt)

pub overflow_sub-result : goal.overflow_sub-result
overflow_sub-result c =
    omega (arith, highest-field c.args.x c.well_formed.0.1 c.requires)

pub overflow_add-result : goal.overflow_add-result
overflow_add-result c =
    record { fits = omega (arith, div-le_self c.scaled.result (2 ^ (1054 - to_bits binary64 c.args.x % 2 ^ 63 / 2 ^ 52))) }

pub returns : goal.returns
returns c =
    let e = some c.args.x c.well_formed.0.1 c.requires c.if-e-lt1000.false c.scaled.result c.scaled.ensures in
    (e, rw e (count_le c.args.x 180 c.requires))
