use Rattle.prelude.proofs.Logic.{lit<}
use Rattle.night_portions.proofs.Sevenths.{seventh-fits, seventh-read}
use Rattle.night_portions.proofs.portions.seventh.Goals as goal

pub nonzero_div-result : goal.nonzero_div-result
nonzero_div-result c = (lit< tt, seventh-fits c.args.night c.ranges.night)

pub returns : goal.returns
returns c = seventh-read c.args.night c.ranges.night
