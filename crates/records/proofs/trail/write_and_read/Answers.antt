-- What is read back is what was written.
use Rattle.std.proofs.Common.{rules}
use Rattle.records.proofs.Trips.{trip_records}
use Rattle.records.proofs.trail.write_and_read.Goals as goal

pub returns-clause-back : goal.returns-clause-back
returns-clause-back c = search (rules, trip_records)
