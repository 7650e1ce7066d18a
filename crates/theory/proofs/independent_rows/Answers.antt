-- Rows are independent exactly if none depends on those before it.
use Rattle.theory.proofs.Algebra.Earlier.{independent-rows}
use Rattle.theory.proofs.independent_rows.Goals as goal

pub returns : goal.returns
returns c = independent-rows
