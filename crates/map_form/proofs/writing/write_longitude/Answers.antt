-- The answer that is computed is owed.
use Rattle.map_form.specs.Hundredths.{most_longitude}
use Rattle.map_form.specs.Written.{map_longitude_tag}
use Rattle.map_form.proofs.NearestLaws.{owed}
use Rattle.map_form.proofs.writing.write_longitude.Goals as goal

pub returns : goal.returns
returns c =
    record {
      value = c.write.ensures;
      owed = rw c.write.ensures (owed map_longitude_tag most_longitude _);
    }
