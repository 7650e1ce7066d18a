-- The word multiplied by the inverse of its first nonzero symbol is the leader.
use Rattle.lines.proofs.Leaders.{divided_leader}
use Rattle.lines.proofs.leader.make_leader.Goals as goal

pub returns-clause-leads : goal.returns-clause-leads
returns-clause-leads g c = divided_leader (g.met.F.Field.lawful c.args.field.now) c.args.word.now c.multiply.new.word cc
