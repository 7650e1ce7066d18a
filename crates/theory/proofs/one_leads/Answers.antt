-- Each line has one leader.
use Rattle.theory.proofs.Whole.{one_leads}
use Rattle.theory.proofs.one_leads.Goals as goal

pub returns : goal.returns
returns c = one_leads
