-- With no dependent row the rows are independent.
use Rattle.std.proofs.Common.{sym}
use Rattle.forms.proofs.TestedMatrix.{independent-from-none}
use Rattle.forms.proofs.checks.check_rows.Goals as goal

pub invariant_of-result : goal.invariant_of-result
invariant_of-result g c =
    let rows = c.in_ok-rows.rows in
    let field = rows.field.now in
    record { independent = independent-from-none (g.F.Field.meaning field) rows.matrix.k rows.matrix.n rows.matrix.codes.now (g.F.Field.negation field) (g.F.Field.inversion field) (g.met.F.Field.lawful field) rows.coded (sym c.in-None.ensures.value) }
