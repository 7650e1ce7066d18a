-- Scaling the row keeps the code.
use Rattle.std.proofs.Common.{rules}
use Rattle.forms.proofs.KeptCode.{scale_keeps, scale_one}
use Rattle.forms.proofs.matrix_steps.scale_row.Goals as goal

pub returns-clause-one : goal.returns-clause-one
returns-clause-one g c = scale_one (g.met.F.Field.lawful c.args.field.now) c.args.k c.args.n c.args.codes.now c.args.i c.args.column (search rules) _ (search rules)

pub returns-clause-code : goal.returns-clause-code
returns-clause-code g c = scale_keeps (g.met.F.Field.lawful c.args.field.now) c.args.k c.args.n c.args.codes.now c.args.i c.args.column (search rules) _ (search rules)
