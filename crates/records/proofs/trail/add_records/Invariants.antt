-- The records so far are added, and what is left decides.
use Rattle.std.proofs.Common.{◌≡◌, length, take, drop, map}
use Rattle.records.specs.Rolls.{records, room}
use Rattle.records.specs.Trails.{record_at, trail_fault}
use Rattle.records.proofs.trail.add_records.Given as goal

abbrev pub invariant-loop-at : goal.invariant-loop-at
invariant-loop-at l = record {
  fault : trail_fault (room l.initial.roll) l.at-counter (map record_at (drop l.at-counter l.parts)) ≡ trail_fault (room l.initial.roll) 0 (map record_at l.parts);
  added : records l.roll ≡ map record_at (take l.at-counter l.parts);
  counted : length (records l.roll) ≡ l.at-counter;
  room : room l.roll ≡ room l.initial.roll;
  slots : l.roll.slots.ghost_name ≡ l.initial.roll.slots.ghost_name;
}
