-- After i steps the counter stands at visit i of a level that is counted.
use Rattle.std.proofs.Common.{◌≡◌, true}
use Rattle.choices.specs.Levels.{CounterAt, has_level}
use Rattle.choices.specs.Kept.{KeptVisit}
use Rattle.choices.proofs.visit_counter.VisitCounter.at.Given as goal

abbrev pub invariant-loop : goal.invariant-loop
invariant-loop l = let level = l.fn.level in (has_level level.k level.t level.q ≡ true) × CounterAt level.k level.t level.q l.counter l.visit × KeptVisit l.visit
