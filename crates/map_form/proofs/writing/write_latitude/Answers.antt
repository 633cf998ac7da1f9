-- The answer that is computed is owed.
use Rattle.map_form.specs.Hundredths.{most_latitude}
use Rattle.map_form.specs.Written.{map_latitude_tag}
use Rattle.map_form.proofs.NearestLaws.{owed}
use Rattle.map_form.proofs.writing.write_latitude.Goals as goal

pub returns : goal.returns
returns c =
    record {
      value = c.write.ensures;
      owed = rw c.write.ensures (owed map_latitude_tag most_latitude _);
    }
