-- The [7, 4] code is accepted.
use Rattle.theory.proofs.Witness.{accepted74}
use Rattle.theory.proofs.code74_accepted.Goals as goal

pub returns : goal.returns
returns c = accepted74
