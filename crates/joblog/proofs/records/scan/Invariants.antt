-- Invariant: reading the records from i on, with what the earlier ones say, is reading the whole log.
use Rattle.std.proofs.Common.{◌≡◌, drop, eqb}
use Rattle.joblog.specs.Records.{read_of, log_reading_of}
use Rattle.joblog.proofs.ScanLaws.{chunked}
use Rattle.joblog.proofs.records.scan.Given as goal

abbrev pub invariant-loop-i : goal.invariant-loop-i
invariant-loop-i l = read_of (eqb l.i 0) l.s (chunked (drop l.i l.records)) ≡ log_reading_of l.log
