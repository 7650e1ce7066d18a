-- Searches alike answer alike.
use Rattle.theory.proofs.Whole.{told_alike}
use Rattle.theory.proofs.answers_alike.Goals as goal

pub returns : goal.returns
returns c = told_alike
