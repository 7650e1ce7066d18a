-- Every choice of rows stands once in R(k, t).
use Rattle.theory.proofs.Order.Exactly.{choices_are}
use Rattle.theory.proofs.choices_once.Goals as goal

pub returns : goal.returns
returns c = choices_are
