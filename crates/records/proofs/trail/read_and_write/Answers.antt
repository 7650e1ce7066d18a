-- What is written back is what was read.
use Rattle.std.proofs.Common.{rules}
use Rattle.records.specs.Rolls.{records}
use Rattle.records.proofs.Trips.{trip_bytes}
use Rattle.records.proofs.trail.read_and_write.Goals as goal

pub returns-clause-back : goal.returns-clause-back
returns-clause-back c = search (rules, trip_bytes (records c.read_trail.new.roll))
