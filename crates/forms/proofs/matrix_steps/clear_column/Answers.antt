-- The column is cleared, and the code kept.
use Rattle.std.proofs.Common.{rules}
use Rattle.forms.proofs.KeptCode.{clear_keeps, clear_zeros}
use Rattle.forms.proofs.matrix_steps.clear_column.Goals as goal

pub returns-clause-zeros : goal.returns-clause-zeros
returns-clause-zeros g c = clear_zeros (g.met.F.Field.lawful c.args.field.now) c.args.k c.args.n c.args.codes.now c.args.pivot c.args.column (search rules) _ (search rules)

pub returns-clause-code : goal.returns-clause-code
returns-clause-code g c = clear_keeps (g.met.F.Field.lawful c.args.field.now) c.args.k c.args.n c.args.codes.now c.args.pivot c.args.column (search rules) _ (search rules)
