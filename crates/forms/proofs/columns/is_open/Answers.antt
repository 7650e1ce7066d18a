-- A column that is not marked is open where a row has a pivot in it.
use Rattle.std.proofs.Common.{◌≡◌, true, not, ◌&&◌, sym, ap, ◌∙◌, rules}
use Rattle.theory.specs.Codes.{is_zero}
use Rattle.theory.specs.Forms.{column}
use Rattle.forms.specs.Matrices.{rows_of}
use Rattle.forms.specs.ColumnMarks.{marked}
use Rattle.forms.proofs.Marks.{column_tested}
use Rattle.forms.proofs.columns.is_open.Goals as goal

pub returns-then-not-is_marked : goal.returns-then-not-is_marked
returns-then-not-is_marked c =
    let m = c.args.matrix.now in
    let free : not (marked c.args.marks.now c.args.c) ≡ true = search rules in
    record { value = c.is_some.ensures ∙ sym (column_tested m.k m.n m.codes.now c.args.c c.pivot_row.result c.pivot_row.ensures.value) ∙ sym (ap (λ b. b && not (is_zero (column (rows_of m.k m.n m.codes.now) c.args.c))) free) }
