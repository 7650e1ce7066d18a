-- The coefficients that are all 1 are the first; what the coefficients are does not depend on the limit.
use Rattle.std.proofs.Common.{refl, arith}
use Rattle.std.proofs.lemmas.Bool.Decides.{nat_tests}
use Rattle.choices.proofs.NextLists.{ones_stand, ones_kept, all_lists}
use Rattle.choices.proofs.coefficients.Coefficients.first.Goals as goal

pub returns-then-q-lt2-clause-all : goal.returns-then-q-lt2-clause-all
returns-then-q-lt2-clause-all c = all_lists c.args.q c.args.t

pub invariant_of-result : goal.invariant_of-result
invariant_of-result c = ones_kept c.args.q c.args.t c.if-q-lt2.false (omega (arith, c.if-t-eq0.false)) c.if-t-gt32.false

pub returns-clause-value : goal.returns-clause-value
returns-clause-value c = (grind (arith, nat_tests), refl, refl, ones_stand c.args.q c.args.t c.if-q-lt2.false (omega (arith, c.if-t-eq0.false)) c.if-t-gt32.false)

pub returns-clause-all : goal.returns-clause-all
returns-clause-all c = all_lists c.args.q c.args.t

pub returns-clause-kept : goal.returns-clause-kept
returns-clause-kept c = invariant_of-result c
