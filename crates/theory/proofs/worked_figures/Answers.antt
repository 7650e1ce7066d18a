-- The worked figures are as computed.
use Rattle.theory.proofs.Figures.{worked_figures}
use Rattle.theory.proofs.worked_figures.Goals as goal

pub returns : goal.returns
returns c = worked_figures
