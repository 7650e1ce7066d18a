-- The codes that are all 1 are the first.
use Rattle.choices.proofs.NextLists.{ones_stand-again, ones_kept-again}
use Rattle.choices.proofs.coefficients.Coefficients.restart.Goals as goal

pub invariant_of-self : goal.invariant_of-self
invariant_of-self c = ones_kept-again _ _ _ c.self.invariant

pub returns-clause-after : goal.returns-clause-after
returns-clause-after c = rw (← c.self.view_is) (ones_stand-again _ _ _ c.self.invariant)

pub returns-clause-kept : goal.returns-clause-kept
returns-clause-kept c = invariant_of-self c
