use Rattle.probes.proofs.functions.course.Goals as goal

pub returns : goal.returns
returns c = simp (c.date_course.ensures, c.new-2.ensures, c.new.ensures)
