-- Over a run each counted line was counted once.
use Rattle.theory.proofs.Promise.History.{counts_what_it_visits}
use Rattle.theory.proofs.counts_what_it_visits.Goals as goal

pub returns : goal.returns
returns c = counts_what_it_visits
