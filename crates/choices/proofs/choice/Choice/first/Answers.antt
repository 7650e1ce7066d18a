-- The lowest rows are the first choice; what R(k, t) holds does not depend on the limit.
use Rattle.std.proofs.Common.{◌≤◌, refl, arith}
use Rattle.std.proofs.lemmas.Bool.Decides.{nat_tests}
use Rattle.theory.specs.Visits.{choices}
use Rattle.choices.proofs.Places.{stands_listed}
use Rattle.choices.proofs.RowPlaces.{to_choice}
use Rattle.choices.proofs.NextChoices.{lowest_stand, all_choices}
use Rattle.choices.proofs.choice.Choice.first.Goals as goal

pub returns-then-k-gt32-clause-all : goal.returns-then-k-gt32-clause-all
returns-then-k-gt32-clause-all c = all_choices c.args.k c.args.t

pub invariant_of-result : goal.invariant_of-result
invariant_of-result c =
    let fits : c.args.t ≤ c.args.k = omega (arith, c.if-t-k.false) in
    (c.if-k-gt32.false, fits, stands_listed (choices c.args.k c.args.t) 0 _ (lowest_stand c.args.k c.args.t c.if-k-gt32.false fits))

pub returns-clause-value : goal.returns-clause-value
returns-clause-value c = (grind (arith, nat_tests), refl, refl, to_choice c.args.k c.args.t 0 _ (lowest_stand c.args.k c.args.t c.if-k-gt32.false (omega (arith, c.if-t-k.false))))

pub returns-clause-all : goal.returns-clause-all
returns-clause-all c = all_choices c.args.k c.args.t

pub returns-clause-kept : goal.returns-clause-kept
returns-clause-kept c = invariant_of-result c
