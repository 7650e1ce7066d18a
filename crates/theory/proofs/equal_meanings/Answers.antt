-- Fields and weights of equal meaning are equal.
use Rattle.theory.proofs.Promise.Determined.{same-field, same-weight}
use Rattle.theory.proofs.equal_meanings.Goals as goal

pub returns : goal.returns
returns c = (same-field, same-weight)
