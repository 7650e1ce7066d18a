-- The trail of the records so far, and behind it the buffer as it was.
use Rattle.std.proofs.Common.{◌≡◌, ◌*◌, take, drop}
use Rattle.records.specs.Trails.{trail}
use Rattle.records.proofs.trail.put_all.Given as goal

abbrev pub invariant-loop-i : goal.invariant-loop-i
invariant-loop-i l = (take (6 * l.i) l.buffer ≡ trail (take l.i l.items)) × (drop (6 * l.i) l.buffer ≡ drop (6 * l.i) l.initial.buffer)
