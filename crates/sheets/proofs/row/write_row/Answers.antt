use Rattle.prelude.proofs.Logic.{◌∙◌}
use Rattle.sheets.proofs.row.write_row.Goals as goal

pub returns-in-Ok : goal.returns-in-Ok
returns-in-Ok c = record { value = c.none.ensures ∙ c.in-Ok.ensures.value; buffer_after = c.written.ensures.buffer_after }

pub returns-in-Err : goal.returns-in-Err
returns-in-Err c = record { value = c.in-Err.ensures.value; buffer_after = c.written.ensures.buffer_after }
