use Rattle.prelude.proofs.Logic.{refl, replicate, rules}
use Rattle.braille.proofs.Parts.{day_put, refused_done}
use Rattle.braille.proofs.row.day_alone.Goals as goal

pub returns : goal.returns
returns c =
    let date = c.args.date in
    let day = c.day_cells in
    let put = c.put in
    refused_done date put.new.buffer (day_put date (replicate 39 0) put.new.buffer day.result refl day.ensures put.ensures)
