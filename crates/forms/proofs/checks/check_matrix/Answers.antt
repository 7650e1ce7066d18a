-- With no code past the order the codes make a matrix.
use Rattle.std.proofs.Common.{sym, ap, ◌∙◌}
use Rattle.forms.specs.Refusals.{first_no_code}
use Rattle.forms.proofs.TestedMatrix.{matrix-from-codes}
use Rattle.forms.proofs.checks.check_matrix.Goals as goal

pub invariant_of-result-2-clause-coded : goal.invariant_of-result-2-clause-coded
invariant_of-result-2-clause-coded g c =
    let f = g.F.Field.meaning c.args.field.now in
    let codes = c.args.codes.now in
    matrix-from-codes f c.args.k c.args.n codes c.if-codes-k.false (sym (c.in_default.ensures.value ∙ ap (λ q. first_no_code q codes) c.order.ensures.value))
