-- A level meets each line of its message weight once.
use Rattle.theory.proofs.Whole.{levels_meet_once}
use Rattle.theory.proofs.levels_meet_once.Goals as goal

pub returns : goal.returns
returns c = levels_meet_once
