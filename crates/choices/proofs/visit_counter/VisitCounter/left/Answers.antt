-- The counter stands before the end of the level.
use Rattle.std.proofs.Common.{refl, arith}
use Rattle.choices.proofs.Counters.{counter_below, counter_length}
use Rattle.choices.proofs.visit_counter.VisitCounter.left.Goals as goal

pub overflow_sub-result : goal.overflow_sub-result
overflow_sub-result c = omega (arith, counter_below _ c.self.invariant)

pub returns-clause-some : goal.returns-clause-some
returns-clause-some c = omega (arith, counter_below _ c.self.invariant)

pub returns-clause-visits : goal.returns-clause-visits
returns-clause-visits c = rw (← c.self.view_is, counter_length _ c.self.invariant) refl
