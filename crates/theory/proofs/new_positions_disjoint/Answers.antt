-- No position is new in two forms.
use Rattle.theory.proofs.Whole.{new_positions-disjoint}
use Rattle.theory.proofs.new_positions_disjoint.Goals as goal

pub returns : goal.returns
returns c = new_positions-disjoint
