use Rattle.probes.proofs.worked.rules.Goals as goal

pub returns : goal.returns
returns c = simp (c.of_number-2.ensures, c.of_number.ensures)
