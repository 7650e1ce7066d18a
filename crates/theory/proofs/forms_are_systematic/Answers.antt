-- The forms are systematic, and ranked.
use Rattle.theory.proofs.Whole.{systematic_forms}
use Rattle.theory.proofs.forms_are_systematic.Goals as goal

pub returns : goal.returns
returns c = systematic_forms
