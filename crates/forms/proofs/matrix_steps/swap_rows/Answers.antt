-- The exchange keeps the code.
use Rattle.std.proofs.Common.{rules}
use Rattle.forms.proofs.KeptCode.{exchange_keeps}
use Rattle.forms.proofs.matrix_steps.swap_rows.Goals as goal

pub returns-clause-code : goal.returns-clause-code
returns-clause-code c = λ f negative inverse laws. exchange_keeps laws c.args.k c.args.n c.args.codes.now c.args.i c.args.j (search rules) _ (search rules)
