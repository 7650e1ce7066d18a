-- The rows so far are cleared.
use Rattle.forms.specs.Shapes.{SameShape}
use Rattle.forms.proofs.Clears.{PartlyCleared}
use Rattle.forms.proofs.matrix.MatrixMut.clear_rows.Given as goal

abbrev pub invariant-loop-i : goal.invariant-loop-i
invariant-loop-i g l = PartlyCleared (g.F.Field.meaning l.field) (g.F.Field.negation l.field) (g.F.Field.inversion l.field) l.initial.self.n l.initial.self.codes.now l.pivot l.column l.i l.self.codes.now × SameShape l.initial.self l.self
