-- The step of the visit is a step of the counter.
use Rattle.std.proofs.Common.{arith}
use Rattle.choices.proofs.Counters.{counter_below, stepped_kept, stepped_below, stepped_last, stepped_at, ended_below, ended_last, ended_at, ended_kept}
use Rattle.choices.proofs.visit_counter.VisitCounter.advance.Goals as goal

pub returns-then-not-next_visit : goal.returns-then-not-next_visit
returns-then-not-next_visit c =
    let over = c.if-not-next_visit.ensures in
    rw (← c.self.view_is) record { value = ended_below _ c.self.invariant _ _ over.same over.value; last = ended_last _ c.self.invariant _ _ over.same over.value; after = ended_at _ c.self.invariant _ _ over.same over.value; kept = ended_kept _ c.self.invariant _ _ over.same over.value (over.rows c.self.invariant.0) over.codes }

pub overflow_add-self : goal.overflow_add-self
overflow_add-self c = omega (arith, counter_below _ c.self.invariant, c.self.ranges)

pub invariant_of-self-2 : goal.invariant_of-self-2
invariant_of-self-2 c =
    let next = c.if-not-next_visit.ensures in
    stepped_kept _ c.self.invariant _ _ next.same next.value (next.rows c.self.invariant.0) next.codes

pub returns : goal.returns
returns c =
    let next = c.if-not-next_visit.ensures in
    rw (← c.self.view_is) record { value = stepped_below _ c.self.invariant _ _ next.same next.value; last = stepped_last _ c.self.invariant _ _ next.same next.value; after = stepped_at _ c.self.invariant _ _ next.same next.value; kept = stepped_kept _ c.self.invariant _ _ next.same next.value (next.rows c.self.invariant.0) next.codes }
