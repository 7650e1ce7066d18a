-- The promise holds after every run.
use Rattle.theory.proofs.Whole.{promise}
use Rattle.theory.proofs.promise_stands.Goals as goal

pub returns : goal.returns
returns c = promise
