-- The counter's visit is the one of its number.
use Rattle.choices.proofs.LevelSteps.{is_visit-of}
use Rattle.choices.proofs.Counters.{counter_stands}
use Rattle.choices.proofs.visit_counter.VisitCounter.place.Goals as goal

pub returns-clause-stands : goal.returns-clause-stands
returns-clause-stands c = rw (← c.self.view_is) (counter_stands _ c.self.invariant)

pub returns-clause-visit : goal.returns-clause-visit
returns-clause-visit c =
    let v = c.self.inside in
    rw (← c.self.view_is) (is_visit-of v.choice.k v.choice.t v.coefficients.q v.place _ (counter_stands _ c.self.invariant))
